-- `put_links` replaces the table. The invariant: the rows below t are the new ones. Assumes nothing.
use mathlib.Core.Path.{◌≡◌}
use Rattle.place_tables.specs.Cells.{scheduler_in}
use Rattle.place_packing.specs.Tables.{with_next}
use Rattle.laws.proofs.Copying.{copied}
use Rattle.place_packing.proofs.put_links.Given as goal

abbrev pub invariant-loop-t : goal.invariant-loop-t
invariant-loop-t l = scheduler_in l.cells ≡ copied (with_next (scheduler_in l.initial.cells)) (scheduler_in l.initial.cells).threads.links.next l.link-items l.t
