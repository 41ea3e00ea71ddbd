-- `put_sets` replaces the table. The invariant: the sets below m are the new ones. Assumes nothing.
use mathlib.Core.Path.{◌≡◌}
use Rattle.place_tables.specs.Cells.{scheduler_in}
use Rattle.place_packing.specs.Tables.{with_sets}
use Rattle.laws.proofs.Copying.{copied}
use Rattle.place_packing.proofs.Putting.{sets_of}
use Rattle.place_packing.proofs.put_sets.Given as goal

abbrev pub invariant-loop-m : goal.invariant-loop-m
invariant-loop-m l = scheduler_in l.cells ≡ copied (with_sets (scheduler_in l.initial.cells) l.kind) (sets_of (scheduler_in l.initial.cells) l.kind) l.set-items l.m
