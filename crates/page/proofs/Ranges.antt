-- What a chain over the numbers below n answers, said by a test at each number: `all` and `any`.
-- Assumes nothing.
use Prim.Native.Nat.{ℕ, zero, suc, ◌+◌}
use mathlib.Core.Path.{◌≡◌, refl, sym, ap, ap₂, ◌∙◌}
use mathlib.Core.Bool.{Bool, true, false, not, ◌&&◌, ◌||◌}
use native.Mathlib.Omega.{arith}
use denote.Param.Members.{Mut}
use Rattle.std.specs.declared.ops.Range.{Range}
use Rattle.std.specs.Fn.{Called}
use Rattle.std.specs.Iterator.{ChecksAll, ChecksAny}
use Rattle.std.specs.List.{range_with_len, list_all, list_any}
use Rattle.std.proofs.iter.Yields.{nat_range_steps}
use Rattle.std.proofs.lemmas.Iterator.{YieldsList, YieldsList-from_range}
use Rattle.std.proofs.lemmas.Iterator.Search.{all_from_yields_List, any_from_yields_List}
use Rattle.laws.specs.Lists.{tabulate}
use Rattle.rules.specs.Sound.{each}
use Rattle.rules.specs.Page.{each_row}

-- the numbers below n, as a range gives them
pub numbers : (n : ℕ) → YieldsList nat_range_steps (λ x. x) (record { start = 0; end = n }) (range_with_len 0 n)
numbers n = YieldsList-from_range 0 n n refl (omega arith)

-- of three tests the second first
second_first : (a b c : Bool) → (a && (b && c)) ≡ (b && (a && c))
second_first true b c = refl
second_first false true c = refl
second_first false false c = refl

-- the first number apart
pub each_first : (n : ℕ) (f : ℕ → Bool) → each (suc n) f ≡ (f 0 && each n (λ i. f (suc i)))
unfolding each
each_first zero f = refl
each_first (suc n) f = ap (λ b. f (suc n) && b) (each_first n f) ∙ second_first (f (suc n)) (f 0) (each n (λ i. f (suc i)))

-- a test of each row of a table is one at each number
pub rows_each_lem : {A : Type 0} (f : A → Bool) (n : ℕ) (g : ℕ → A) → each_row f (tabulate n g) ≡ each n (λ i. f (g i))
unfolding each_row tabulate each
rows_each_lem f zero g = refl
rows_each_lem f (suc n) g = ap (λ b. f (g 0) && b) (rows_each_lem f n (λ i. g (suc i))) ∙ sym (each_first n (λ i. f (g i)))

-- a test of each number from a on
all_each : (n a : ℕ) (test f : ℕ → Bool) → ((i : ℕ) → test (i + a) ≡ f i) → list_all test (range_with_len a n) ≡ each n f
all_each zero a test f h = unfold each in refl
all_each (suc n) a test f h =
    ap₂ ◌&&◌ (ap test (omega arith) ∙ h 0) (all_each n (a + 1) test (λ i. f (suc i)) (λ i. ap test (omega arith) ∙ h (suc i))) ∙ sym (each_first n f)

-- one of them fails or all pass
any_all : (n a : ℕ) (test : ℕ → Bool) → list_any test (range_with_len a n) ≡ not (list_all (λ i. not (test i)) (range_with_len a n))
any_all zero a test = refl
any_all (suc n) a test = go (test a) _ _ (any_all n (a + 1) test)
  where
    go : (b : Bool) (c d : Bool) → c ≡ not d → (b || c) ≡ not (not b && d)
    go true c d e = refl
    go false c d e = e

module _ {F : Type 0} {g : Mut F (ℕ × Unit {0}) Bool} (n : ℕ) (test : ℕ → Bool) {f : F} {u : Range ℕ} {r : Bool} where
  -- what `all` answers
  pub all_numbers : ChecksAll nat_range_steps g (record { start = 0; end = n }) f r u → ((x : ℕ) (b : Bool) (q : F) → Called g f (x, tt) b q → (q ≡ f) × (b ≡ test x)) → r ≡ each n test
  all_numbers ran k = all_from_yields_List test u f r ran (numbers n) k ∙ all_each n 0 test test (λ i. ap test (omega arith))

  -- what `any` answers
  pub any_numbers : ChecksAny nat_range_steps g (record { start = 0; end = n }) f r u → ((x : ℕ) (b : Bool) (q : F) → Called g f (x, tt) b q → (q ≡ f) × (b ≡ test x)) → r ≡ not (each n (λ i. not (test i)))
  any_numbers ran k = any_from_yields_List test u f r ran (numbers n) k ∙ any_all n 0 test ∙ ap not (all_each n 0 (λ i. not (test i)) (λ i. not (test i)) (λ i. ap (λ j. not (test j)) (omega arith)))
