-- A table that a loop replaces, row after row: the rows below i are the new ones, the others are still the old ones.
-- Assumes nothing.
use Prim.Native.Nat.{ℕ, ◌+◌, ◌<◌, ◌≤◌}
use mathlib.Core.Path.{◌≡◌, sym, ap, ap₂, ◌∙◌}
use mathlib.Core.List.{List, ◌++◌, append-nil}
use native.Mathlib.Nat.{zero-add}
use native.Mathlib.Numerals.{add-one}
use native.Mathlib.Omega.{arith}
use lib.ListN.{length, get_or, set, drop, drop_of_length-le}
use lib.Seq.{paste, paste-zero, paste-suc, take_all}

-- a whole, by what its table is
module _ {A X : Type 0} (whole : List A → X) (old new : List A) where
  -- the rows below i are the new ones
  unfoldable pub copied : ℕ → X
  copied i = whole (paste old 0 new i)

  -- at first no row is new
  pub copy_none : (x : X) → x ≡ whole old → x ≡ copied 0
  unfolding copied
  copy_none x e = e ∙ ap whole (paste-zero old 0 new)

  -- row i is put
  pub copy_next : (size i : ℕ) (d : A) (put : X → A → X) (y z : X) → length old ≡ size → length new ≡ size → i < size
      → ((l : List A) (a : A) → put (whole l) a ≡ whole (set l i a)) → y ≡ copied i → z ≡ put y (get_or new i d) → z ≡ copied (i + 1)
  unfolding copied
  copy_next size i d put y z o n l puts e f = f ∙ ap (λ x. put x (get_or new i d)) e ∙ puts (paste old 0 new i) (get_or new i d) ∙ ap whole stored
    where
      stored : set (paste old 0 new i) i (get_or new i d) ≡ paste old 0 new (i + 1)
      stored =
          ap (λ j. set (paste old 0 new i) j (get_or new i d)) (sym (zero-add i))
          ∙ paste-suc old 0 new i d (omega arith) (omega arith)
          ∙ ap (paste old 0 new) (sym (add-one i))

  -- at last all are
  pub copy_all : (size i : ℕ) (y : X) → length old ≡ size → length new ≡ size → size ≤ i → y ≡ copied i → y ≡ whole new
  unfolding copied
  copy_all size i y o n h e = e ∙ ap whole (ap₂ (λ a b. a ++ b) (take_all i new (omega arith)) (ap (λ j. drop j old) (zero-add i) ∙ drop_of_length-le old {i = i} (omega arith)) ∙ append-nil new)
