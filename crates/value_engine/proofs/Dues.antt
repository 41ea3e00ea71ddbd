-- The timers that come due, as a list of ids in ascending order, are those whose condition variables document 01 signals, in that order.
-- Assumes nothing.
use Prim.Native.Nat.{ℕ, zero, suc, ◌<◌, ◌≤◌}
use mathlib.Core.Path.{◌≡◌, refl, sym, ap, ap₂, ◌∙◌}
use mathlib.Core.Bool.{Bool, true, false, cond, ◌||◌}
use mathlib.Core.List.{List, [], ◌∷◌, ◌++◌, map}
use native.Mathlib.Omega.{arith}
use native.Mathlib.Nat.{not-suc-le-zero, le_of_suc-le-suc}
use lib.ListN.{length}
use lib.Dec.{eqb-zero-suc, eqb-suc-suc}
use Rattle.laws.specs.Lists.{put, among}
use Rattle.laws.specs.Bits.{has}
use Rattle.rules.specs.State.{Timer, timer}
use Rattle.rules.specs.Effects.{is_due, due_conditions}

-- ids below k that pass a test, each once
abbrev pub Listed : ℕ → (ℕ → Bool) → List ℕ → Type 0
Listed k p [] = Unit {0}
Listed k p (i ∷ is) = (i < k) × (p i ≡ true) × (has i is ≡ false) × Listed k p is

has_shifted : (i : ℕ) (is : List ℕ) → has (suc i) (map suc is) ≡ has i is
has_shifted i [] = refl
has_shifted i (j ∷ is) = ap₂ (λ a b. a || b) (eqb-suc-suc i j) (has_shifted i is)

zero_not : (is : List ℕ) → has 0 (map suc is) ≡ false
zero_not [] = refl
zero_not (j ∷ is) = rw (eqb-zero-suc j) (zero_not is)

shifted : (k : ℕ) (p : ℕ → Bool) (is : List ℕ) → Listed k (λ i. p (suc i)) is → Listed (suc k) p (map suc is)
shifted k p [] l = tt
shifted k p (i ∷ is) l = (omega (arith, l.0), l.1, has_shifted i is ∙ l.2, shifted k p is l.3)

-- those among the numbers below k are so listed
pub listed : (k : ℕ) (p : ℕ → Bool) → Listed k p (among k p)
unfolding among
listed zero p = tt
listed (suc k) p = go (p 0) refl (shifted k p (among k (λ i. p (suc i))) (listed k (λ i. p (suc i))))
  where
    go : (b : Bool) → p 0 ≡ b → Listed (suc k) p (map suc (among k (λ i. p (suc i)))) → Listed (suc k) p (put b 0 ++ map suc (among k (λ i. p (suc i))))
    go true e l = (omega arith, e, zero_not (among k (λ i. p (suc i))), l)
    go false e l = l

-- ---- their condition variables

map_shifted : (f : ℕ → ℕ) (is : List ℕ) → map f (map suc is) ≡ map (λ i. f (suc i)) is
map_shifted f [] = refl
map_shifted f (i ∷ is) = ap (λ l. f (suc i) ∷ l) (map_shifted f is)

pub due_conditions_lem : (k : ℕ) (ts : List Timer) → length ts ≤ k → due_conditions ts ≡ map (λ i. (timer ts i).condition) (among k (λ i. is_due (timer ts i)))
unfolding due_conditions among
due_conditions_lem zero [] h = refl
due_conditions_lem zero (x ∷ ts) h = absurd (not-suc-le-zero h)
due_conditions_lem (suc k) [] h = due_conditions_lem k [] (omega arith) ∙ sym (map_shifted (λ i. (timer [] i).condition) (among k (λ i. is_due (timer [] (suc i)))))
due_conditions_lem (suc k) (x ∷ ts) h = go (is_due x) (due_conditions_lem k ts (le_of_suc-le-suc h))
  where
    go : (b : Bool) → due_conditions ts ≡ map (λ i. (timer ts i).condition) (among k (λ i. is_due (timer ts i)))
        → cond b (x.condition ∷ due_conditions ts) (due_conditions ts) ≡ map (λ i. (timer (x ∷ ts) i).condition) (put b 0 ++ map suc (among k (λ i. is_due (timer ts i))))
    go true e = ap (λ l. x.condition ∷ l) (e ∙ sym (map_shifted (λ i. (timer (x ∷ ts) i).condition) (among k (λ i. is_due (timer ts i)))))
    go false e = e ∙ sym (map_shifted (λ i. (timer (x ∷ ts) i).condition) (among k (λ i. is_due (timer ts i))))
