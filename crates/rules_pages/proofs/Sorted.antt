-- The numbers of a set in order of their places, those of one place in ascending order: who is in that list, and that it is so ordered.
-- Assumes nothing.
use Prim.Native.Nat.{ℕ, zero, suc, ◌<◌, ◌≤◌}
use mathlib.Core.Path.{◌≡◌, refl, sym, ◌∙◌}
use mathlib.Core.Bool.{Bool, true, false, ◌||◌, ◌&&◌, false≢true}
use mathlib.Core.List.{List, [], ◌∷◌, ◌++◌, flatten}
use native.Mathlib.Omega.{arith}
use native.Mathlib.Nat.{not-suc-le-zero}
use lib.Dec.{eqb}
use borrow.Author.Tests.{eqb-true}
use Rattle.laws.specs.Lists.{put, among, tabulate}
use Rattle.laws.specs.Bits.{has}
use Rattle.laws.proofs.Bools.{no_way, self, or_elim, or_left, or_right, or_assoc, and_left, and_right, and_both}
use Rattle.laws.proofs.Lists.{by_below}
use Rattle.laws.proofs.Bits.{among_next, has_among, has_past}
use Rattle.rules.specs.Sound.{mem}
use Rattle.rules_soundness.proofs.Tests.{mem_first}
use Rattle.rules_soundness.proofs.Fits.{Ordered, ordered_mono}

-- ---- lists laid end to end

mem_append : (u : ℕ) (a b : List ℕ) → mem u (a ++ b) ≡ (mem u a || mem u b)
unfolding mem
mem_append u [] b = refl
mem_append u (x ∷ a) b = rw (mem_append u a b) (or_assoc (eqb u x) (mem u a) (mem u b))

module _ (before : ℕ → ℕ → Type 0) where
  ordered_append : (a b : List ℕ) → Ordered before a → Ordered before b → ((u v : ℕ) → mem u a ≡ true → mem v b ≡ true → before u v) → Ordered before (a ++ b)
  unfolding mem
  ordered_append [] b o p h = p
  ordered_append (x ∷ a) b o p h = (
    λ u m. or_elim (mem u a) (mem u b) (sym (mem_append u a b) ∙ m) (o.0 u) (h x u (mem_first x a)),
    ordered_append a b o.1 p (λ u v m l. h u v (or_right (eqb u x) (mem u a) m) l),
  )

-- who is in one of the lists is in all, and the other way round
pub in_flatten : (n : ℕ) (g : ℕ → List ℕ) (i u : ℕ) → i < n → mem u (g i) ≡ true → mem u (flatten (tabulate n g)) ≡ true
unfolding tabulate flatten
in_flatten zero g i u l m = absurd (not-suc-le-zero l)
in_flatten (suc n) g zero u l m = mem_append u (g 0) (flatten (tabulate n (λ i. g (suc i)))) ∙ or_left (mem u (g 0)) (mem u (flatten (tabulate n (λ i. g (suc i))))) m
in_flatten (suc n) g (suc i) u l m =
    mem_append u (g 0) (flatten (tabulate n (λ i. g (suc i))))
    ∙ or_right (mem u (g 0)) (mem u (flatten (tabulate n (λ i. g (suc i))))) (in_flatten n (λ i. g (suc i)) i u (omega arith) m)

pub of_flatten : (n : ℕ) (g : ℕ → List ℕ) (u : ℕ) → mem u (flatten (tabulate n g)) ≡ true → (i : ℕ) × (mem u (g i) ≡ true)
unfolding tabulate flatten mem
of_flatten zero g u m = absurd (false≢true m)
of_flatten (suc n) g u m = or_elim (mem u (g 0)) (mem u (flatten (tabulate n (λ i. g (suc i))))) (sym (mem_append u (g 0) (flatten (tabulate n (λ i. g (suc i))))) ∙ m)
    (λ y. (0, y))
    (λ y. let w = of_flatten n (λ i. g (suc i)) u y in (suc w.0, w.1))

-- ordered lists of which each is before the next make an ordered list
ordered_flatten : (before : ℕ → ℕ → Type 0) (n : ℕ) (g : ℕ → List ℕ) → ((i : ℕ) → Ordered before (g i)) → ((i j u v : ℕ) → i < j → mem u (g i) ≡ true → mem v (g j) ≡ true → before u v)
    → Ordered before (flatten (tabulate n g))
unfolding tabulate flatten
ordered_flatten before zero g o h = tt
ordered_flatten before (suc n) g o h =
    ordered_append before (g 0) (flatten (tabulate n (λ i. g (suc i)))) (o 0)
    (ordered_flatten before n (λ i. g (suc i)) (λ i. o (suc i)) (λ i j u v l. h (suc i) (suc j) u v (omega arith)))
    (λ u v m l. let w = of_flatten n (λ i. g (suc i)) v l in h 0 (suc w.0) u v (omega arith) m w.1)

-- ---- the numbers of a set in ascending order

mem_has : (u : ℕ) (l : List ℕ) → mem u l ≡ has u l
unfolding mem
mem_has u [] = refl
mem_has u (x ∷ l) = rw (mem_has u l)

in_among : (n : ℕ) (f : ℕ → Bool) (u : ℕ) → u < n → f u ≡ true → mem u (among n f) ≡ true
in_among n f u l e = mem_has u (among n f) ∙ has_among n f u l ∙ e

of_among : (n : ℕ) (f : ℕ → Bool) (u : ℕ) → mem u (among n f) ≡ true → (u < n) × (f u ≡ true)
of_among n f u m = by_below u n
    (λ l. (l, sym (has_among n f u l) ∙ sym (mem_has u (among n f)) ∙ m))
    (λ l. no_way (mem u (among n f)) m (mem_has u (among n f) ∙ has_past n f u l))

ordered_among : (n : ℕ) (f : ℕ → Bool) → Ordered (λ u v. u < v) (among n f)
unfolding among
ordered_among zero f = tt
ordered_among (suc n) f =
    rw (among_next n f)
    (ordered_append (λ u v. u < v) (among n f) (put (f n) n) (ordered_among n f) (last (f n)) (λ u v m l. omega (arith, (of_among n f u m).0, is_last v (f n) l)))
  where
    last : (b : Bool) → Ordered (λ u v. u < v) (put b n)
    last true = (λ u m. absurd (false≢true (unfold mem in m)), tt)
    last false = tt

    is_last : (v : ℕ) (b : Bool) → mem v (put b n) ≡ true → v ≡ n
    is_last v true m = or_elim (eqb v n) (mem v []) (unfold mem in m) (λ y. eqb-true v n y) (λ y. absurd (false≢true (unfold mem in y)))
    is_last v false m = absurd (false≢true (unfold mem in m))

-- ---- the numbers of a set by place

-- u has a smaller place than v, or the same place and is smaller itself
abbrev pub Before : (ℕ → ℕ) → ℕ → ℕ → Type 0
Before place u v = (place u ≤ place v) × (place u ≡ place v → u < v)

pub before_asym : (place : ℕ → ℕ) (u v : ℕ) → Before place u v → Before place v u → ⊥
before_asym place u v b c = let e : place u ≡ place v = omega arith in omega (arith, b.1 e, c.1 (sym e))

module _ (n : ℕ) (f : ℕ → Bool) (place : ℕ → ℕ) where
  -- those of place i
  abbrev pub level : ℕ → List ℕ
  level i = among n (λ t. f t && eqb (place t) i)

  abbrev pub sorted : List ℕ
  sorted = flatten (tabulate n level)

  -- what whoever is of place i has
  of_level : (i u : ℕ) → mem u (level i) ≡ true → (u < n) × (f u ≡ true) × (place u ≡ i)
  of_level i u m =
      let w = of_among n (λ t. f t && eqb (place t) i) u m in
      (w.0, and_left (f u) (eqb (place u) i) w.1, eqb-true (place u) i (and_right (f u) (eqb (place u) i) w.1))

  pub in_sorted : (u : ℕ) → u < n → f u ≡ true → place u < n → mem u sorted ≡ true
  in_sorted u l e k = in_flatten n level (place u) u k (in_among n (λ t. f t && eqb (place t) (place u)) u l (and_both (f u) (eqb (place u) (place u)) e (self (place u))))

  pub of_sorted : (u : ℕ) → mem u sorted ≡ true → f u ≡ true
  of_sorted u m = let w = of_flatten n level u m in (of_level w.0 u w.1).1

  pub ordered_sorted : Ordered (Before place) sorted
  ordered_sorted = ordered_flatten (Before place) n level
      (λ i. ordered_mono (λ u v. u < v) (Before place) (level i)
      (λ u v m l h. let a = (of_level i u m).2 in let b = (of_level i v l).2 in (omega (arith, a, b), λ e. h))
      (ordered_among n (λ t. f t && eqb (place t) i)))
      (λ i j u v h m l. let a = (of_level i u m).2 in let b = (of_level j v l).2 in (omega (arith, a, b), λ e. omega (arith, a, b)))
