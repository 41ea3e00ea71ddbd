-- One step of the search for the largest ceiling, and its end.
-- Assumes nothing.
use Prim.Native.Nat.{ℕ, ◌+◌, ◌<◌, ◌≤◌, max}
use mathlib.Core.Path.{◌≡◌}
use mathlib.Core.List.{List}
use native.Mathlib.Numerals.{add-one}
use native.Mathlib.Omega.{arith}
use lib.ListN.{length, get_or, drop, drop_of_length-le}
use lib.Seq.{drop-cons}
use Rattle.value_effects.specs.declared.Mutex.{Mutex}
use Rattle.value_effects.specs.Effects.{no_mutex, ceiling_for, highest_in}

-- the ceiling at i goes into the best so far
pub search_on : (l : List Mutex) (t best i : ℕ) → i < length l
    → max best (highest_in (drop i l) t) ≡ max (max best (ceiling_for (get_or l i no_mutex) t)) (highest_in (drop (i + 1) l) t)
unfolding highest_in
search_on l t best i h = rw (add-one i, drop-cons l i no_mutex h) (omega arith)

-- past the last mutex the best so far is the largest
pub search_done : (l : List Mutex) (t best i : ℕ) → length l ≤ i → max best (highest_in (drop i l) t) ≡ best
unfolding highest_in
search_done l t best i h = rw (drop_of_length-le l h) (omega arith)
