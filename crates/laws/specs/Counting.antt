-- Reading a list with a fallback, and how often a number stands in a list. The laws are in proofs/Lists.
-- Assumes nothing.
use Rattle.std.specs.Prelude.{ℕ, ◌+◌, ◌<◌, ◌≡◌, Bool, true, false, cond, List, [], ◌∷◌, length, get_or, eqb}

module _ {A : Type 0} where
  -- the list at place i of a list of lists; past the end the empty one
  abbrev pub at : List (List A) → ℕ → List A
  at ls i = get_or ls i []

  -- the first of a list, or d
  abbrev pub first_or : A → List A → A
  first_or d [] = d
  first_or d (x ∷ xs) = x

  -- the last of a list, or d
  abbrev pub last_or : A → List A → A
  last_or d [] = d
  last_or d (x ∷ xs) = last_or x xs

  -- all but the first
  abbrev pub rest : List A → List A
  rest [] = []
  rest (x ∷ xs) = xs

  -- whether a list has an entry
  abbrev pub occupied : List A → Bool
  occupied [] = false
  occupied (x ∷ xs) = true

-- 1 for a test that holds, else 0
abbrev pub bit : Bool → ℕ
bit b = cond b 1 0

-- 1 if t is x, else 0
abbrev pub one : ℕ → ℕ → ℕ
one t x = bit (eqb t x)

-- how often t stands in a list
abbrev pub count : ℕ → List ℕ → ℕ
count t [] = 0
count t (x ∷ xs) = one t x + count t xs

-- how often t stands in all lists of a list
abbrev pub counts : ℕ → List (List ℕ) → ℕ
counts t [] = 0
counts t (l ∷ ls) = count t l + counts t ls

module _ {A : Type 0} (w : ℕ) where
  -- each of the lists has w entries
  abbrev pub Wide : List (List A) → Type 0
  Wide xss = (i : ℕ) → i < length xss → length (at xss i) ≡ w
