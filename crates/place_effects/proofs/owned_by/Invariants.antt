-- `owned_by` is the count. The invariant: the count so far and that of the mutexes left give what the whole count gives, and the count so far is at most
-- the mutexes passed, so that it does not wrap. Assumes nothing.
use Prim.Native.Nat.{◌≤◌, ◌+◌}
use mathlib.Core.Path.{◌≡◌}
use lib.ListN.{drop}
use Rattle.refusals.specs.Verdicts.{owned_in}
use Rattle.place_tables.specs.Cells.{scheduler_in}
use Rattle.place_effects.proofs.owned_by.Given as goal

abbrev pub invariant-loop-i : goal.invariant-loop-i
invariant-loop-i l = (l.owned ≤ l.i) × (l.owned + owned_in (drop l.i (scheduler_in l.cells).mutexes) l.t ≡ owned_in (scheduler_in l.cells).mutexes l.t)
