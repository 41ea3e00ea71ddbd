-- Ticks left filled from a row: starting each timer in turn, from all stopped, hangs the row.
-- Assumes nothing.
use Prim.Native.Nat.{ℕ, suc, ◌<◌, ◌%◌}
use mathlib.Core.Path.{◌≡◌, refl, sym}
use mathlib.Core.List.{List}
use native.Mathlib.Omega.{arith}
use lib.ListN.{get_or}
use lib.Dec.{eqb}
use borrow.Author.Tests.{eqb-true, eqb-false, lt-ltb, le-ltb}
use Rattle.laws.specs.Lists.{tabulate}
use Rattle.laws.proofs.Bools.{by_cases}
use Rattle.wheel.specs.Hung.{empty, given, filled, with_left, started}
use Rattle.wheel.proofs.Visits.{unchanged, changed, at_k}

-- at first every timer is stopped
pub fill_none : (count : ℕ) (row : List ℕ) → filled (count % 64) row 0 ≡ empty count
unfolding tabulate empty
fill_none count row = refl

-- starting the timer k for its ticks left in the row fills one timer more, also where the row has 0
pub fill_next : (p : ℕ) (row : List ℕ) (k : ℕ) → k < 32 → started (filled p row k) k (get_or row k 0) ≡ filled p row (suc k)
unfolding started with_left
fill_next p row k l =
    rw (lt-ltb k 32 l, at_k (given row) k 0 l)
    (by_cases (eqb (get_or row k 0) 0)
    (λ e. rw (le-ltb 0 (get_or row k 0) (omega (arith, eqb-true (get_or row k 0) 0 e)), unchanged (given row) k (sym (eqb-true (get_or row k 0) 0 e))))
    (λ e. rw (lt-ltb 0 (get_or row k 0) (omega (arith, eqb-false (get_or row k 0) 0 e)), changed (given row) k l (get_or row k 0) refl)))
