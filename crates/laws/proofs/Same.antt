-- When the test of two values decides.
-- Assumes nothing.
use mathlib.Core.Path.{◌≡◌, refl, sym, ap₂, subst}
use mathlib.Core.Logic.{◌↔◌}
use mathlib.Core.Bool.{Bool, true, false≢true}
use mathlib.Core.List.{List, [], ◌∷◌}
use lib.Dec.{eqb}
use borrow.Author.Tests.{eqb-true}
use Rattle.laws.specs.Same.{same_list, Decides}
use Rattle.laws.proofs.Bools.{self, and_left, and_right, and_both}

-- ---- a test that decides

-- so every result that is the test of two values is true exactly if they are one
pub exactly : {A : Type 0} {test : A → A → Bool} → Decides test → (x y : A) (r : Bool) → r ≡ test x y → (r ≡ true) ↔ (x ≡ y)
exactly {A} {test} d x y r e = subst (λ q. (q ≡ true) ↔ (x ≡ y)) (sym e) (d.tells x y, λ q. subst (λ z. test x z ≡ true) q (d.holds x))

-- two numbers
pub numbers : Decides eqb
numbers = record { tells = eqb-true; holds = self }

module _ {A : Type 0} {test : A → A → Bool} (d : Decides test) where
  -- lists that pass are one
  lists_tell : (x y : List A) → same_list test x y ≡ true → x ≡ y
  unfolding same_list
  lists_tell [] [] e = refl
  lists_tell [] (b ∷ y) e = absurd (false≢true e)
  lists_tell (a ∷ x) [] e = absurd (false≢true e)
  lists_tell (a ∷ x) (b ∷ y) e = ap₂ (λ z l. z ∷ l) (d.tells a b (and_left (test a b) (same_list test x y) e)) (lists_tell x y (and_right (test a b) (same_list test x y) e))

  -- a list passes with itself
  lists_hold : (x : List A) → same_list test x x ≡ true
  unfolding same_list
  lists_hold [] = refl
  lists_hold (a ∷ x) = and_both (test a a) (same_list test x x) (d.holds a) (lists_hold x)

  -- two lists, by a test that decides of their entries
  pub lists : Decides (same_list test)
  lists = record { tells = lists_tell; holds = lists_hold }

-- two values that have their parts and nothing else
pub through : {A B : Type 0} {test : B → B → Bool} (parts : A → B) → ((x y : A) → parts x ≡ parts y → x ≡ y) → Decides test → Decides (λ x y. test (parts x) (parts y))
through parts whole d = record { tells = λ x y e. whole x y (d.tells (parts x) (parts y) e); holds = λ x. d.holds (parts x) }
