-- `put_rows` replaces the table. The invariant: the rows below t are the new ones. Assumes nothing.
use mathlib.Core.Path.{refl}
use Rattle.queue.proofs.Cases.{cases}
use Rattle.value_tables.specs.Tables.{blank}
use Rattle.place_tables.specs.Cells.{scheduler_in}
use Rattle.place_tables.specs.Changes.{with_thread}
use Rattle.laws.proofs.Copying.{copy_none, copy_next, copy_all}
use Rattle.place_packing.proofs.Putting.{row_put, rows_long}
use Rattle.place_packing.proofs.put_rows.Goals as goal

pub loop-t-init : goal.loop-t-init
loop-t-init c = copy_none _ _ _ _ refl

pub loop-t-preserved : goal.loop-t-preserved
loop-t-preserved c =
    let l = c.loop-t in
    let x = scheduler_in c.args.cells.now in
    let less = c.loop-t-test.true in
    copy_next _ _ _ 32 l.t blank (λ y a. with_thread y l.t a) _ _ (rows_long _) (search cases) less (row_put x l.t less) l.invariant c.put_thread.ensures

pub returns : goal.returns
returns c = copy_all _ _ _ 32 _ _ (rows_long _) (search cases) c.loop-t-test.false c.loop-t.invariant
