-- The stores of joining and leaving a queue, by its cases, as what the definition makes of the links and the set.
-- Assumes nothing.
use Prim.Native.Nat.{ℕ, ◌+◌, ◌%◌, ◌<◌, ◌≤◌}
use mathlib.Core.Path.{◌≡◌, refl, sym, ap, ◌∙◌}
use mathlib.Core.Logic.{◌≢◌}
use mathlib.Core.Bool.{cond}
use native.Mathlib.Omega.{arith}
use lib.ListN.{get_or, set}
use lib.Seq.{set-get_or}
use lib.Dec.{eqb}
use borrow.Author.Tests.{lt-ltb, le-ltb, eq-eqb, ne_eqb}
use Rattle.queue.specs.declared.Queue.{Queue}
use Rattle.queue.specs.declared.Queues.{Queues}
use Rattle.queue.specs.Linking.{empty_queue, level_model, with_level_model, back_model, front_model, leave_model, ahead_model, remove_behind, remove_model}
use Rattle.value_tables.specs.Tables.{join_model, join_front_model, depart_model, remove_from_model}
use Rattle.value_tables.specs.declared.Threads.{Threads}
use Rattle.value_effects.specs.declared.Scheduler.{Scheduler}
use Rattle.value_effects.specs.Effects.{no_set, with_threads, for_mutex_of, on_condition_of, with_for_mutex, with_on_condition}
use Rattle.place_tables.specs.Changes.{set_numbered, with_set, with_link, link_of, queue_numbered, with_queue}
use Rattle.place_tables.proofs.Storing.{set_back}
use Rattle.place_queues.specs.Joining.{links_kept, with_joined}

-- an id below 32 modulo 32
small : (t : ℕ) → t < 32 → t % 32 ≡ t
small t l = omega arith

-- the link of a thread is read
pub link_read : (x : Scheduler) (t : ℕ) → t < 32 → link_of x t ≡ get_or (links_kept x).next t 0
link_read x t h = ap (λ i. get_or (links_kept x).next i 0) (small t h)

module _ (x : Scheduler) (n p : ℕ) where
  -- the queue put back as it was
  kept : with_set x n (with_level_model (set_numbered x n) p (queue_numbered x n p)) ≡ x
  unfolding with_level_model level_model
  kept = ap (with_set x n) (ap (λ l. record { levels = l }) (set-get_or (set_numbered x n).levels p empty_queue)) ∙ set_back x n

  -- a link changed does not change a set
  linked_set : (t v : ℕ) → set_numbered (with_link x t v) n ≡ set_numbered x n
  unfolding set_numbered
  linked_set t v = refl

  -- no thread joins
  pub join_none : (t : ℕ) → 32 ≤ t → x ≡ with_joined x n (join_model (links_kept x) (set_numbered x n) p t)
  unfolding join_model back_model
  join_none t h = rw (le-ltb t 32 h) (sym kept)

  -- it joins behind others
  pub join_behind : (t : ℕ) → t < 32 → (queue_numbered x n p).last < 32
      → with_queue (with_link x (queue_numbered x n p).last t) n p (record { first = (queue_numbered x n p).first; last = t }) ≡ with_joined x n (join_model (links_kept x) (set_numbered x n) p t)
  unfolding join_model back_model
  join_behind t h l = rw (lt-ltb t 32 h, lt-ltb (queue_numbered x n p).last 32 l, linked_set (queue_numbered x n p).last t, small (queue_numbered x n p).last l) refl

  -- it joins an empty queue
  pub join_alone : (t : ℕ) → t < 32 → 32 ≤ (queue_numbered x n p).last
      → with_queue x n p (record { first = t; last = t }) ≡ with_joined x n (join_model (links_kept x) (set_numbered x n) p t)
  unfolding join_model back_model
  join_alone t h l = rw (lt-ltb t 32 h, le-ltb (queue_numbered x n p).last 32 l) refl

  -- no thread joins in front
  pub front_none : (t : ℕ) → 32 ≤ t → x ≡ with_joined x n (join_front_model (links_kept x) (set_numbered x n) p t)
  unfolding join_front_model front_model
  front_none t h = rw (le-ltb t 32 h) (sym kept)

  -- it joins before others
  pub front_before : (t : ℕ) → t < 32 → (queue_numbered x n p).first < 32
      → with_queue (with_link x t (queue_numbered x n p).first) n p (record { first = t; last = (queue_numbered x n p).last }) ≡ with_joined x n (join_front_model (links_kept x) (set_numbered x n) p t)
  unfolding join_front_model front_model
  front_before t h l = rw (lt-ltb t 32 h, lt-ltb (queue_numbered x n p).first 32 l, linked_set t (queue_numbered x n p).first, small t h) refl

  -- it joins an empty queue
  pub front_alone : (t : ℕ) → t < 32 → 32 ≤ (queue_numbered x n p).first
      → with_queue (with_link x t (queue_numbered x n p).first) n p (record { first = t; last = t }) ≡ with_joined x n (join_front_model (links_kept x) (set_numbered x n) p t)
  unfolding join_front_model front_model
  front_alone t h l = rw (lt-ltb t 32 h, le-ltb (queue_numbered x n p).first 32 l, linked_set t (queue_numbered x n p).first, small t h) refl

  -- nobody leaves
  pub depart_none : 32 ≤ (queue_numbered x n p).first → x ≡ with_joined x n (depart_model (links_kept x) (set_numbered x n) p)
  unfolding depart_model leave_model
  depart_none h = rw (le-ltb (queue_numbered x n p).first 32 h) (sym kept)

  -- the first leaves, and others stay
  pub depart_first : (queue_numbered x n p).first < 32 → link_of x (queue_numbered x n p).first < 32
      → with_queue (with_link x (queue_numbered x n p).first 255) n p (record { first = link_of x (queue_numbered x n p).first; last = (queue_numbered x n p).last }) ≡ with_joined x n (depart_model (links_kept x) (set_numbered x n) p)
  unfolding depart_model leave_model
  depart_first h l =
      let e = small (queue_numbered x n p).first h in
      let g : get_or (links_kept x).next (queue_numbered x n p).first 0 < 32 = rw (← e) l in
      rw (lt-ltb (queue_numbered x n p).first 32 h, lt-ltb (get_or (links_kept x).next (queue_numbered x n p).first 0) 32 g, linked_set (queue_numbered x n p).first 255, e) refl

  -- the last leaves
  pub depart_last : (queue_numbered x n p).first < 32 → 32 ≤ link_of x (queue_numbered x n p).first
      → with_queue (with_link x (queue_numbered x n p).first 255) n p empty_queue ≡ with_joined x n (depart_model (links_kept x) (set_numbered x n) p)
  unfolding depart_model leave_model
  depart_last h l =
      let e = small (queue_numbered x n p).first h in
      let g : 32 ≤ get_or (links_kept x).next (queue_numbered x n p).first 0 = rw (← e) l in
      rw (lt-ltb (queue_numbered x n p).first 32 h, le-ltb (get_or (links_kept x).next (queue_numbered x n p).first 0) 32 g, linked_set (queue_numbered x n p).first 255, e) refl

  -- no thread is removed
  pub remove_none : (t : ℕ) → 32 ≤ t → x ≡ with_joined x n (remove_from_model (links_kept x) (set_numbered x n) p t)
  unfolding remove_from_model remove_model
  remove_none t h = rw (le-ltb t 32 h) (sym kept)

module _ (x : Scheduler) (n p t : ℕ) (queue : Queue) (read : queue ≡ queue_numbered x n p) (h : t < 32) where
  -- the first is removed
  pub remove_first : queue.first ≡ t → with_joined x n (depart_model (links_kept x) (set_numbered x n) p) ≡ with_joined x n (remove_from_model (links_kept x) (set_numbered x n) p t)
  unfolding remove_from_model remove_model depart_model
  remove_first e = rw (← read, lt-ltb t 32 h, eq-eqb queue.first t e) refl

  module _ (v : ℕ) (other : queue.first ≢ t) (found : v ≡ ahead_model (links_kept x).next 32 queue.first t) where
    -- one who does not stand there is not
    pub remove_nowhere : 32 ≤ v → x ≡ with_joined x n (remove_from_model (links_kept x) (set_numbered x n) p t)
    unfolding remove_from_model remove_model remove_behind
    remove_nowhere l = sym (kept x n p) ∙ rw (← read, lt-ltb t 32 h, ne_eqb queue.first t other, ← found, le-ltb v 32 l) refl

    module _ (l : v < 32) where
      -- the links without t
      abbrev y : Scheduler
      y = with_link (with_link x v (link_of x t)) t 255

      -- they do not change a set
      same_set : set_numbered y n ≡ set_numbered x n
      same_set = linked_set (with_link x v (link_of x t)) n p t 255 ∙ linked_set x n p v (link_of x t)

      -- one behind others is
      behind : with_queue y n p (record { first = queue.first; last = cond (eqb queue.last t) v queue.last }) ≡ with_joined x n (remove_from_model (links_kept x) (set_numbered x n) p t)
      unfolding remove_from_model remove_model remove_behind
      behind = rw (same_set, ← read, lt-ltb t 32 h, ne_eqb queue.first t other, ← found, lt-ltb v 32 l, small v l, small t h) refl

      -- as the last
      pub remove_last : queue.last ≡ t → with_queue y n p (record { first = queue.first; last = v }) ≡ with_joined x n (remove_from_model (links_kept x) (set_numbered x n) p t)
      remove_last e = ap (λ u. with_queue y n p (record { first = queue.first; last = cond u v queue.last })) (sym (eq-eqb queue.last t e)) ∙ behind

      -- or before others, and the ends of the queue stay
      pub remove_between : queue.last ≢ t → y ≡ with_joined x n (remove_from_model (links_kept x) (set_numbered x n) p t)
      remove_between e = sym (kept y n p) ∙ ap (with_queue y n p) (ap (λ s. level_model s p) same_set ∙ sym read)
          ∙ ap (λ u. with_queue y n p (record { first = queue.first; last = cond u v queue.last })) (sym (ne_eqb queue.last t e)) ∙ behind

-- ---- the sets of mutexes and condition variables

-- the set of mutex m has its number
pub for_mutex_lem : (x : Scheduler) (m : ℕ) → set_numbered x ((m % 16 + 1) % 33) ≡ for_mutex_of x m
unfolding set_numbered
for_mutex_lem x m =
    let e : (m % 16 + 1) % 33 ≡ m % 16 + 1 = omega arith in
    rw (e, ne_eqb (m % 16 + 1) 0 (λ z. omega arith), lt-ltb (m % 16 + 1) 17 (omega arith)) (ap (λ i. get_or x.formutex i no_set) (omega arith))

-- and so has that of condition variable c
pub on_condition_lem : (x : Scheduler) (c : ℕ) → set_numbered x ((c % 16 + 17) % 33) ≡ on_condition_of x c
unfolding set_numbered
on_condition_lem x c =
    let e : (c % 16 + 17) % 33 ≡ c % 16 + 17 = omega arith in
    rw (e, ne_eqb (c % 16 + 17) 0 (λ z. omega arith), le-ltb (c % 16 + 17) 17 (omega arith)) (ap (λ i. get_or x.oncondition i no_set) (omega arith))

-- changed with the threads
pub with_for_mutex_lem : (x : Scheduler) (a : Threads) (m : ℕ) (s : Queues) → with_set (with_threads x a) ((m % 16 + 1) % 33) s ≡ with_for_mutex x m (record { threads = a; set = s })
unfolding with_set
with_for_mutex_lem x a m s =
    let e : (m % 16 + 1) % 33 ≡ m % 16 + 1 = omega arith in
    rw (e, ne_eqb (m % 16 + 1) 0 (λ z. omega arith), lt-ltb (m % 16 + 1) 17 (omega arith)) (ap (λ i. record {
      threads = a;
      mutexes = x.mutexes;
      formutex = set x.formutex i s;
      ties = x.ties;
      oncondition = x.oncondition;
      running = x.running;
    }) (omega arith))

pub with_on_condition_lem : (x : Scheduler) (a : Threads) (c : ℕ) (s : Queues) → with_set (with_threads x a) ((c % 16 + 17) % 33) s ≡ with_on_condition x c (record { threads = a; set = s })
unfolding with_set
with_on_condition_lem x a c s =
    let e : (c % 16 + 17) % 33 ≡ c % 16 + 17 = omega arith in
    rw (e, ne_eqb (c % 16 + 17) 0 (λ z. omega arith), le-ltb (c % 16 + 17) 17 (omega arith)) (ap (λ i. record {
      threads = a;
      mutexes = x.mutexes;
      formutex = x.formutex;
      ties = x.ties;
      oncondition = set x.oncondition i s;
      running = x.running;
    }) (omega arith))
