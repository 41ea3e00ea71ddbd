-- Leaving a queue from anywhere, in links and ends, is leaving in the definition's queues: what describes a scheduler describes the one in which the thread has
-- left its queue.
-- Assumes nothing.
use Prim.Native.Nat.{ℕ, zero, suc, ◌<◌, ◌≤◌}
use mathlib.Core.Path.{◌≡◌, refl, sym, ap, ap₂, ◌∙◌}
use mathlib.Core.Logic.{◌≢◌}
use mathlib.Core.Bool.{true}
use mathlib.Core.List.{List, [], ◌∷◌, ◌++◌, flatten}
use native.Mathlib.Omega.{arith}
use lib.ListN.{length, set}
use borrow.Author.Tests.{eq-eqb, ne_eqb}
use Rattle.laws.specs.Counting.{at, one, count}
use Rattle.laws.proofs.Lists.{by_equal, by_below, one_same, one_other}
use Rattle.queue.specs.Linking.{remove_model, level_model}
use Rattle.queue.specs.Stands.{ends_of, links_of, linked_in, queues_of}
use Rattle.queue.proofs.Sets.{remove_in, remove_none_in}
use Rattle.value_tables.specs.Tables.{remove_from_model, remove_model_in}
use Rattle.rules.specs.Queues.{QueueSet, queue}
use Rattle.rules.specs.Leaving.{without, thread_leaves}
use Rattle.rules.specs.State.{Where, waits, Rows, Sets, Scheduler, priority, set_at, put_set}
use Rattle.rules_soundness.proofs.Rows.{Real}
use Rattle.rules_soundness.proofs.Facts.{Queued}
use Rattle.value_meaning.specs.Stands.{all_sets, threads_of, scheduler_of}
use Rattle.value_meaning.proofs.Sides.{side, side_below}
use Rattle.value_meaning.proofs.Fresh.{once_counted, counted_at, wide, fresh, has_set}
use Rattle.value_meaning.proofs.Joining.{standing, here, carried, level}
use Rattle.value_meaning.proofs.Threads.{waiting_at, left_stands}
use Rattle.value_meaning.proofs.Sets.{Narrow, set_at_place, with_set, set_found, set_stored}

-- ---- one queue

-- without one who does not stand there it is the same
without_none : (t : ℕ) (q : List ℕ) → count t q ≡ 0 → without t q ≡ q
unfolding without
without_none t [] h = refl
without_none t (x ∷ q) h =
    rw (ne_eqb x t (λ e. absurd (omega (arith, ap (one t) e, one_same t)))) (ap (λ l. x ∷ l) (without_none t q (omega arith)))

-- one who stands there stands between two parts, and without it they are the queue
record Between (t : ℕ) (q : List ℕ) : Type 0 where
  before : List ℕ
  behind : List ℕ
  whole : q ≡ before ++ (t ∷ behind)
  parted : without t q ≡ before ++ behind

-- where it stands is found from the first on
between : (t : ℕ) (q : List ℕ) → 0 < count t q → count t q ≤ 1 → Between t q
unfolding without
between t [] h k = absurd (omega arith)
between t (x ∷ q) h k = by_equal x t
    (λ e. record { before = []; behind = q; whole = ap (λ y. y ∷ q) e; parted = rw (eq-eqb x t e) (without_none t q (omega (arith, ap (one t) e, one_same t))) })
    (λ n. let b = between t q (omega (arith, one_other t x (λ e. n (sym e)))) (omega arith) in
    record { before = x ∷ b.before; behind = b.behind; whole = ap (λ l. x ∷ l) b.whole; parted = rw (ne_eqb x t n) (ap (λ l. x ∷ l) b.parted) })

-- ---- a set of queues

-- without one who stands in none of them they are the same
leaves_none : (qs : QueueSet) (t : ℕ) → ((v : ℕ) → count t (at qs v) ≡ 0) → thread_leaves qs t ≡ qs
unfolding thread_leaves
leaves_none [] t h = refl
leaves_none (q ∷ qs) t h = ap₂ (λ x y. x ∷ y) (without_none t q (h 0)) (leaves_none qs t (λ v. h (suc v)))

-- one who stands in no other queue than that of priority p leaves that one
leaves_one : (qs : QueueSet) (t p : ℕ) → ((v : ℕ) → v ≢ p → count t (at qs v) ≡ 0) → thread_leaves qs t ≡ set qs p (without t (queue qs p))
unfolding thread_leaves
leaves_one [] t p h = refl
leaves_one (q ∷ qs) t zero h = ap (λ y. without t q ∷ y) (leaves_none qs t (λ v. h (suc v) (λ e. absurd (omega arith))))
leaves_one (q ∷ qs) t (suc p) h = ap₂ (λ x y. x ∷ y) (without_none t q (h 0 (λ e. absurd (omega arith)))) (leaves_one qs t p (λ v n. h (suc v) (λ e. n (omega arith))))

module _ {k : Rows} {s : Sets} (q : Queued k s) (few : length k.threads ≤ 32) (w : Where) (r : Real k w) (p t : ℕ) (low : p < 16)
    (only : (v : ℕ) → v ≢ p → count t (at (set_at s w) v) ≡ 0) where
  -- the queue of priority p without t
  taken : remove_model (links_of (flatten (all_sets s))) (ends_of (at (at (all_sets s) (side s w)) p)) t ≡ linked_in (all_sets s) (side s w) p (without t (queue (set_at s w) p))
  taken = by_below 0 (count t (queue (set_at s w) p))
      (λ h. let b = between t (queue (set_at s w) p) h (once_counted t (queue (set_at s w) p) ((q.fits w r).order p low)) in
      remove_in 16 (all_sets s) (side s w) p (wide q) (side_below s w (has_set q w r)) low (fresh q few) t b.before b.behind (its_queue ∙ b.whole)
      ∙ ap (linked_in (all_sets s) (side s w) p) (sym b.parted))
      (λ h. let z : count t (queue (set_at s w) p) ≡ 0 = omega arith in
      remove_none_in 16 (all_sets s) (side s w) p (wide q) (side_below s w (has_set q w r)) low (fresh q few) t (ap (count t) its_queue ∙ z)
      ∙ ap (linked_in (all_sets s) (side s w) p) (its_queue ∙ sym (without_none t (queue (set_at s w) p) z)))
    where
      its_queue : at (at (all_sets s) (side s w)) p ≡ queue (set_at s w) p
      its_queue = ap (λ x. at x p) (here q few w r p low)

  -- the links and the set after t has left w
  pub remove_from_stands : remove_from_model (links_of (flatten (all_sets s))) (queues_of (set_at s w)) p t ≡ standing s w (thread_leaves (set_at s w) t)
  unfolding remove_from_model
  remove_from_stands = carried q few w r p low (remove_model (links_of (flatten (all_sets s))) (level_model (queues_of (set_at s w)) p) t) (without t (queue (set_at s w) p))
      (ap (λ x. remove_model (links_of (flatten (all_sets s))) x t) (level q few w r p low) ∙ taken)
      ∙ ap (standing s w) (sym (leaves_one (set_at s w) t p only))

-- ---- the threads and the scheduler

module _ {k : Rows} {s : Sets} (q : Queued k s) (few : length k.threads ≤ 32) (w : Where) (r : Real k w) (t : ℕ) where
  -- t stands in no other queue at w than that of its priority
  its_own : (v : ℕ) → v ≢ priority k t → count t (at (set_at s w) v) ≡ 0
  its_own v n = by_below 0 (count t (at (set_at s w) v)) (λ h. absurd (n (sym (counted_at (q.fits w r) t v h).2))) (λ h. omega arith)

  -- the threads after t has left the mutex or condition variable w
  pub remove_stands : waits w ≡ true → priority k t < 16 → remove_model_in (threads_of k s) (queues_of (set_at s w)) (priority k t) t ≡ waiting_at k s w (thread_leaves (set_at s w) t)
  unfolding remove_model_in
  remove_stands z low = left_stands k s w z (remove_from_model (threads_of k s).links (queues_of (set_at s w)) (priority k t) t) (thread_leaves (set_at s w) t)
      (unfold threads_of in (remove_from_stands q few w r (priority k t) t low its_own))

-- the scheduler after t has left the mutex or condition variable w
pub removes_there : (h : Scheduler) → Queued h.rows h.sets → length h.rows.threads ≤ 32 → (t : ℕ) → priority h.rows t < 16
    → (w : Where) → waits w ≡ true → Real h.rows w → Narrow h.rows w
    → with_set (scheduler_of h) w (remove_model_in (scheduler_of h).threads (set_at_place (scheduler_of h) w) (priority h.rows t) t)
    ≡ scheduler_of (record { rows = h.rows; sets = put_set h.sets w (thread_leaves (set_at h.sets w) t) })
removes_there h q few t low w z r n =
    ap (with_set (scheduler_of h) w) gone ∙ set_stored h h.rows.threads w z r n (has_set q w r) (thread_leaves (set_at h.sets w) t)
  where
    gone : remove_model_in (scheduler_of h).threads (set_at_place (scheduler_of h) w) (priority h.rows t) t ≡ waiting_at h.rows h.sets w (thread_leaves (set_at h.sets w) t)
    gone = ap (λ s. remove_model_in (scheduler_of h).threads s (priority h.rows t) t) (set_found h w z r n) ∙ (unfold scheduler_of in (remove_stands q few w r t z low))
