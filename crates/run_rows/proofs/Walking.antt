-- The eight bytes of a row in a list of bytes.
-- Assumes nothing.
use Prim.Native.Nat.{ℕ, suc, ◌+◌, ◌<◌, ◌≤◌}
use mathlib.Core.Path.{◌≡◌}
use mathlib.Core.List.{List, [], ◌∷◌}
use native.Mathlib.Omega.{arith}
use borrow.Author.Tests.{le-leb, lt-leb}
use lib.ListN.{length, drop, get_or, replicate}
use lib.Seq.{drop-cons}
use Rattle.run_rows.specs.Rows.{row_at}

module _ (bytes : List ℕ) (at : ℕ) where
  -- the byte at place i, and what follows it
  next : (i j : ℕ) → i < length bytes → suc i ≡ j → drop i bytes ≡ get_or bytes i 0 ∷ drop j bytes
  next i j h e = rw (drop-cons bytes i 0 h, e)

  -- eight bytes from a place on
  pub eight : at + 8 ≤ length bytes
      → get_or bytes at 0 ∷ get_or bytes (at + 1) 0 ∷ get_or bytes (at + 2) 0 ∷ get_or bytes (at + 3) 0 ∷ get_or bytes (at + 4) 0 ∷ get_or bytes (at + 5) 0 ∷ get_or bytes (at + 6) 0 ∷ get_or bytes (at + 7) 0 ∷ [] ≡ row_at bytes at
  unfolding row_at
  eight h =
      let n0 = next at (at + 1) (omega arith) (omega arith) in
      let n1 = next (at + 1) (at + 2) (omega arith) (omega arith) in
      let n2 = next (at + 2) (at + 3) (omega arith) (omega arith) in
      let n3 = next (at + 3) (at + 4) (omega arith) (omega arith) in
      let n4 = next (at + 4) (at + 5) (omega arith) (omega arith) in
      let n5 = next (at + 5) (at + 6) (omega arith) (omega arith) in
      let n6 = next (at + 6) (at + 7) (omega arith) (omega arith) in
      let n7 = next (at + 7) (at + 8) (omega arith) (omega arith) in
      rw (le-leb _ _ h, n0, n1, n2, n3, n4, n5, n6, n7)

  -- fewer than eight bytes from a place on
  pub not_eight : length bytes < at + 8 → replicate 8 0 ≡ row_at bytes at
  unfolding row_at
  not_eight h = rw (lt-leb _ _ h)
