-- `highest_ceiling` is the search. The invariant: the best so far and the ceilings left give what the whole search gives. Assumes nothing.
use Prim.Native.Nat.{max}
use mathlib.Core.Path.{◌≡◌}
use lib.ListN.{drop}
use Rattle.value_effects.specs.Effects.{highest_in}
use Rattle.value_effects.proofs.highest_ceiling.Given as goal

abbrev pub invariant-loop-row : goal.invariant-loop-row
invariant-loop-row l = max l.best (highest_in (drop l.row-index l.row-items) l.t) ≡ highest_in l.row-items l.t
