-- Document 01's order of checking, and when tests stand in it: 17, 1, 2, 3, 4, 6, 7, 5, then the rest by number.
-- Assumes nothing.
use Rattle.std.specs.Prelude.{ℕ, suc, Bool, true, cond, ◌&&◌, List, [], ◌∷◌, eqb, leb}
use Rattle.calls.specs.declared.Verdict.{Verdict}
use Rattle.calls.specs.Answers.{number_of}
use Rattle.rules.specs.Refusals.{Test}

-- the place of a number in a list, or the list's length
unfoldable pub position : ℕ → List ℕ → ℕ
position n [] = 0
position n (x ∷ xs) = cond (eqb n x) 0 (suc (position n xs))

-- the place of a verdict in that order
abbrev pub rank : Verdict → ℕ
rank v = position (number_of v) (17 ∷ 1 ∷ 2 ∷ 3 ∷ 4 ∷ 6 ∷ 7 ∷ 5 ∷ 8 ∷ 9 ∷ 10 ∷ 11 ∷ 12 ∷ 13 ∷ 14 ∷ [])

-- each test is checked after those before it
unfoldable pub in_order : ℕ → List Test → Bool
in_order n [] = true
in_order n (x ∷ xs) = leb n (rank x.verdict) && in_order (suc (rank x.verdict)) xs
