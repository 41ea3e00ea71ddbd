-- `broadcast` is its definition. The invariant: going on from here gives what the whole gives. Assumes nothing.
use mathlib.Core.Path.{◌≡◌}
use Rattle.value_effects.proofs.Broadcasting.{on_from}
use Rattle.place_tables.specs.Cells.{scheduler_in}
use Rattle.place_effects.proofs.broadcast.Given as goal

abbrev pub invariant-loop-left : goal.invariant-loop-left
invariant-loop-left l = on_from l.left (scheduler_in l.cells) l.c ≡ on_from 0 (scheduler_in l.initial.cells) l.c
