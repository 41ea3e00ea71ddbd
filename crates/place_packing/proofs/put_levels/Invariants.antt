-- `put_levels` replaces the table. The invariant: the queues below p are the new ones. Assumes nothing.
use Prim.Native.Nat.{◌%◌}
use mathlib.Core.Path.{◌≡◌}
use Rattle.place_tables.specs.Cells.{scheduler_in}
use Rattle.place_tables.specs.Changes.{set_numbered}
use Rattle.place_packing.specs.Tables.{with_levels}
use Rattle.laws.proofs.Copying.{copied}
use Rattle.place_packing.proofs.put_levels.Given as goal

abbrev pub invariant-loop-p : goal.invariant-loop-p
invariant-loop-p l = scheduler_in l.cells ≡ copied (with_levels (scheduler_in l.initial.cells) (l.n % 33)) (set_numbered (scheduler_in l.initial.cells) (l.n % 33)).levels l.queue-items l.p
