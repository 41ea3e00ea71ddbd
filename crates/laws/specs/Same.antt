-- Whether two values are the same, as a test that computes: of lists, from one of their entries; and when a test decides.
-- Its laws are in proofs/Same.
-- Assumes nothing.
use Rattle.std.specs.Prelude.{◌≡◌, Bool, true, false, ◌&&◌, List, [], ◌∷◌}

module _ {A : Type 0} where
  -- two lists, by a test of their entries
  unfoldable pub same_list : (A → A → Bool) → List A → List A → Bool
  same_list test [] [] = true
  same_list test [] (y ∷ ys) = false
  same_list test (x ∷ xs) [] = false
  same_list test (x ∷ xs) (y ∷ ys) = test x y && same_list test xs ys

-- a test decides whether two values are one
pub record Decides {A : Type 0} (test : A → A → Bool) : Type 0 where
  pub tells : (x y : A) → test x y ≡ true → x ≡ y
  pub holds : (x : A) → test x x ≡ true
