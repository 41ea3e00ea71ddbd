-- What the contracts of a count of bytes cite.
-- Assumes nothing.
use Rattle.std.specs.Prelude.{ℕ, ◌≤◌, ◌≡◌, List, length, take}

-- a count lies within some bytes, so that the first so many of them are a part of that length; the second half follows from the first, and spares
-- those that cut the bytes there a proof
abbrev pub IsPrefixLen : ℕ → List ℕ → Type 0
IsPrefixLen n xs = (n ≤ length xs) × (n ≡ length (take n xs))
