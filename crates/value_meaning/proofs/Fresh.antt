-- From soundness: every set has 16 queues, each thread stands in at most one queue of all, and one who stands nowhere is in none.
-- Assumes nothing.
use Prim.Native.Nat.{ℕ, zero, suc, ◌-◌, ◌<◌, ◌≤◌}
use mathlib.Core.Path.{◌≡◌, refl, sym, ap, ◌∙◌, subst}
use mathlib.Core.Bool.{Bool, true}
use mathlib.Core.List.{List, [], ◌∷◌, flatten}
use native.Mathlib.Omega.{arith}
use lib.ListN.{length, length-append, get_or-eq_default}
use lib.Dec.{eqb}
use borrow.Author.Tests.{eq-eqb, ne_eqb}
use Rattle.laws.specs.Counting.{at, one, count, counts, Wide}
use Rattle.laws.proofs.Bools.{no_way, or_left}
use Rattle.laws.proofs.Lists.{one_same, one_other, counts_append, count_where, by_equal, by_below}
use Rattle.queue.specs.Stands.{Fresh}
use Rattle.rules.specs.Queues.{QueueSet}
use Rattle.rules.specs.State.{Where, running, ready, for_mutex, on_condition, Rows, Sets, thread, at as stands_at, set_at}
use Rattle.rules.specs.Sound.{mem}
use Rattle.rules_soundness.proofs.Fits.{Ordered, Fits, here, here_prio}
use Rattle.rules_soundness.proofs.Rows.{Real, Has, not_running, standing_exists, same_true}
use Rattle.rules_soundness.proofs.Facts.{Apart, Queued}
use Rattle.value_meaning.specs.Stands.{all_sets}
use Rattle.value_meaning.proofs.Sides.{side, side_set}

-- ---- counting in one queue

-- who is in a queue is counted
mem_counted : (u : ℕ) (q : List ℕ) → 0 < count u q → mem u q ≡ true
unfolding mem
mem_counted u [] h = absurd (omega (arith, h))
mem_counted u (x ∷ q) h = by_equal u x
    (λ e. or_left (eqb u x) (mem u q) (eq-eqb u x e))
    (λ n. rw (ne_eqb u x n) (mem_counted u q (omega (arith, h, one_other u x n))))

-- and not twice
pub once_counted : (u : ℕ) (q : List ℕ) → Ordered Apart q → count u q ≤ 1
once_counted u [] o = omega arith
once_counted u (x ∷ q) o = by_equal u x
    (λ e. omega (arith, ap (λ v. one u v) (sym e) ∙ one_same u, none e))
    (λ n. omega (arith, one_other u x n, once_counted u q o.1))
  where
    none : u ≡ x → count u q ≡ 0
    none e = by_below 0 (count u q) (λ h. absurd (o.0 u (mem_counted u q h) (sym e))) (λ h. omega arith)

-- ---- counting in many lists

-- a thread that is counted at most once in each list and in no two of them is counted at most once in all
once_in_all : (u : ℕ) (ls : List (List ℕ)) → ((s : ℕ) → count u (at ls s) ≤ 1) → ((s r : ℕ) → 0 < count u (at ls s) → 0 < count u (at ls r) → s ≡ r) → counts u ls ≤ 1
once_in_all u [] a b = omega arith
once_in_all u (l ∷ ls) a b = by_below 0 (count u l)
    (λ h. by_below 0 (counts u ls)
    (λ k. let w = count_where u ls k in absurd (omega (arith, b 0 (suc w.0) h w.2)))
    (λ k. omega (arith, a 0)))
    (λ h. omega (arith, once_in_all u ls (λ s. a (suc s)) (λ s r x y. omega (arith, b (suc s) (suc r) x y))))

-- who is counted in sets side by side is counted in one of them
set_where : (u : ℕ) (xss : List (List (List ℕ))) → 0 < counts u (flatten xss) → (i : ℕ) × (0 < counts u (at xss i))
unfolding flatten
set_where u [] h = absurd (omega (arith, h))
set_where u (x ∷ xss) h = by_below 0 (counts u x)
    (λ k. (0, k))
    (λ k. let w = set_where u xss (omega (arith, h, counts_append u x (flatten xss))) in (suc w.0, w.1))

-- the same for sets side by side
once_in_sets : (u : ℕ) (xss : List (List (List ℕ))) → ((i : ℕ) → counts u (at xss i) ≤ 1) → ((i j : ℕ) → 0 < counts u (at xss i) → 0 < counts u (at xss j) → i ≡ j) → counts u (flatten xss) ≤ 1
unfolding flatten
once_in_sets u [] a b = omega arith
once_in_sets u (x ∷ xss) a b = by_below 0 (counts u x)
    (λ h. by_below 0 (counts u (flatten xss))
    (λ k. let w = set_where u xss k in absurd (omega (arith, b 0 (suc w.0) h w.1)))
    (λ k. omega (arith, a 0, counts_append u x (flatten xss))))
    (λ h. omega (arith, counts_append u x (flatten xss), once_in_sets u xss (λ i. a (suc i)) (λ i j y z. omega (arith, b (suc i) (suc j) y z))))

-- ---- one set

module _ {stands : ℕ → Bool} {prio : ℕ → ℕ} {qs : QueueSet} (f : Fits stands prio Apart qs) where
  -- who is counted at a priority stands there with it
  pub counted_at : (u p : ℕ) → 0 < count u (at qs p) → (p < 16) × (stands u ≡ true) × (prio u ≡ p)
  counted_at u p h = by_below p 16
      (λ l. (l, here f p u l (mem_counted u (at qs p) h), here_prio f p u l (mem_counted u (at qs p) h)))
      (λ l. absurd (omega (arith, h, ap (count u) (get_or-eq_default qs [] {n = p} (rw f.size l)))))

  counted_stands : (u : ℕ) → 0 < counts u qs → stands u ≡ true
  counted_stands u h = let w = count_where u qs h in (counted_at u w.0 w.2).1

  counted_once : (u : ℕ) → counts u qs ≤ 1
  counted_once u = once_in_all u qs
      (λ p. by_below p 16 (λ l. once_counted u (at qs p) (f.order p l)) (λ l. omega (arith, ap (count u) (get_or-eq_default qs [] {n = p} (rw f.size l)))))
      (λ p r x y. sym (counted_at u p x).2 ∙ (counted_at u r y).2)

-- ---- all sets

-- the place of a number of a set
which : (s : Sets) (i : ℕ) → i < length (all_sets s) → (w : Where) × Has s w × (side s w ≡ i)
unfolding side all_sets
which s zero h = (ready, tt, refl)
which s (suc i) h = by_below i (length s.mutex)
    (λ l. (for_mutex i, l, refl))
    (λ l. (on_condition (i - length s.mutex), omega (arith, h, length-append s.mutex s.condition), ap suc (omega arith)))

module _ {k : Rows} {s : Sets} (q : Queued k s) where
  real : (w : Where) → Has s w → Real k w
  real running r = r
  real ready r = r
  real (for_mutex m) r = rw q.mutexes at r
  real (on_condition c) r = rw q.conditions at r

  has : (w : Where) → Real k w → Has s w
  has running r = r
  has ready r = r
  has (for_mutex m) r = rw q.mutexes r
  has (on_condition c) r = rw q.conditions r

  pub has_set : (w : Where) → Real k w → Has s w
  has_set = has

  -- every set has 16 queues
  pub wide : Wide 16 (all_sets s)
  wide i h =
      let w = which s i h in
      let e = subst (λ j. at (all_sets s) j ≡ set_at s w.0) w.2 (side_set s w.0 w.1) in
      ap length e ∙ (q.fits w.0 (real w.0 w.1)).size

  -- who is counted in a set stands at its place
  stands_in : (u i : ℕ) → 0 < counts u (at (all_sets s) i) → (w : Where) × Real k w × (side s w ≡ i) × (stands_at k w u ≡ true)
  stands_in u i h = by_below i (length (all_sets s)) inside (λ l. absurd (omega (arith, h, ap (counts u) (get_or-eq_default (all_sets s) [] l))))
    where
      inside : i < length (all_sets s) → (w : Where) × Real k w × (side s w ≡ i) × (stands_at k w u ≡ true)
      inside l =
          let w = which s i l in
          let e = subst (λ j. at (all_sets s) j ≡ set_at s w.0) w.2 (side_set s w.0 w.1) in
          (w.0, real w.0 w.1, w.2, counted_stands (q.fits w.0 (real w.0 w.1)) u (rw e at h))

  once_each : (u i : ℕ) → counts u (at (all_sets s) i) ≤ 1
  once_each u i = by_below i (length (all_sets s)) inside (λ l. omega (arith, ap (counts u) (get_or-eq_default (all_sets s) [] l)))
    where
      inside : i < length (all_sets s) → counts u (at (all_sets s) i) ≤ 1
      inside l =
          let w = which s i l in
          let e = subst (λ j. at (all_sets s) j ≡ set_at s w.0) w.2 (side_set s w.0 w.1) in
          rw e (counted_once (q.fits w.0 (real w.0 w.1)) u)

  one_place : (u i j : ℕ) → 0 < counts u (at (all_sets s) i) → 0 < counts u (at (all_sets s) j) → i ≡ j
  one_place u i j x y =
      let a = stands_in u i x in
      let b = stands_in u j y in
      sym a.2 ∙ ap (side s) (sym (same_true (thread k u).stands a.0 (unfold stands_at in a.3)) ∙ same_true (thread k u).stands b.0 (unfold stands_at in b.3)) ∙ b.2

  -- each thread stands in at most one queue of all
  pub fresh : length k.threads ≤ 32 → Fresh (flatten (all_sets s))
  fresh few = record {
    once = λ u. once_in_sets u (all_sets s) (once_each u) (one_place u);
    low = λ u h. by_below 0 (counts u (flatten (all_sets s)))
        (λ l. let w = set_where u (all_sets s) l in let a = stands_in u w.0 w.1 in
        absurd (omega (arith, few, standing_exists k a.0 u (not_running (length k.mutexes) (length k.ties) a.0 a.1) a.3, h)))
        (λ l. omega arith);
  }

  -- who stands nowhere is in none
  pub absent : (t : ℕ) → (thread k t).stands ≡ running → counts t (flatten (all_sets s)) ≡ 0
  absent t e = by_below 0 (counts t (flatten (all_sets s)))
      (λ l. let w = set_where t (all_sets s) l in let a = stands_in t w.0 w.1 in
      no_way (stands_at k a.0 t) a.3 (unfold stands_at in (rw e (not_running (length k.mutexes) (length k.ties) a.0 a.1))))
      (λ l. omega arith)
