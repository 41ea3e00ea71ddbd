-- `put_mutexes` replaces the table. The invariant: the rows below m are the new ones. Assumes nothing.
use mathlib.Core.Path.{◌≡◌}
use Rattle.place_tables.specs.Cells.{scheduler_in}
use Rattle.place_packing.specs.Tables.{with_mutexes}
use Rattle.laws.proofs.Copying.{copied}
use Rattle.place_packing.proofs.put_mutexes.Given as goal

abbrev pub invariant-loop-m : goal.invariant-loop-m
invariant-loop-m l = scheduler_in l.cells ≡ copied (with_mutexes (scheduler_in l.initial.cells)) (scheduler_in l.initial.cells).mutexes l.row-items l.m
