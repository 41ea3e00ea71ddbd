-- `highest_ceiling` is the search. The invariant: the best so far and the ceilings left give what the whole search gives. Assumes nothing.
use Prim.Native.Nat.{max}
use mathlib.Core.Path.{◌≡◌}
use lib.ListN.{drop}
use Rattle.value_effects.specs.Effects.{highest_in}
use Rattle.place_tables.specs.Cells.{scheduler_in}
use Rattle.place_effects.proofs.highest_ceiling.Given as goal

abbrev pub invariant-loop-i : goal.invariant-loop-i
invariant-loop-i l = max l.best (highest_in (drop l.i (scheduler_in l.cells).mutexes) l.t) ≡ highest_in (scheduler_in l.cells).mutexes l.t
