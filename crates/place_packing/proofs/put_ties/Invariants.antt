-- `put_ties` replaces the table. The invariant: the rows below c are the new ones. Assumes nothing.
use mathlib.Core.Path.{◌≡◌}
use Rattle.place_tables.specs.Cells.{scheduler_in}
use Rattle.place_packing.specs.Tables.{with_ties}
use Rattle.laws.proofs.Copying.{copied}
use Rattle.place_packing.proofs.put_ties.Given as goal

abbrev pub invariant-loop-c : goal.invariant-loop-c
invariant-loop-c l = scheduler_in l.cells ≡ copied (with_ties (scheduler_in l.initial.cells)) (scheduler_in l.initial.cells).ties l.tie-items l.c
