-- `thread_rows` makes the rows in use. The invariant: the rows below t are filled. Assumes nothing.
use Rattle.page_building.specs.Building.{blank_row, thread_rows}
use Rattle.page_building.proofs.Turns.{filling_starts, filling_turns, filling_ends}
use Rattle.page_building.proofs.thread_rows.Goals as goal

pub loop-t-init : goal.loop-t-init
loop-t-init c = filling_starts 32 _ blank_row _ _ c.min-t-end.ensures

pub loop-t-preserved : goal.loop-t-preserved
loop-t-preserved c = rw c.running_row.ensures (filling_turns 32 _ blank_row _ _ _ _ c.loop-t.invariant c.loop-t-test.true)

pub returns : goal.returns
unfolding thread_rows
returns c = filling_ends 32 _ blank_row _ _ _ _ c.loop-t.invariant c.loop-t-test.false
