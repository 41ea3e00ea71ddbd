-- `timer_row` meets its contract: the row, and the ticks left on the wheel. Assumes nothing.
use Rattle.page_describing.proofs.Numbers.{timer_said_lem}
use Rattle.page_describing.proofs.timer_row.Goals as goal

pub returns : goal.returns
returns c = timer_said_lem _ _ _ _ _ c.timer_at-row.ensures c.left-left.ensures.always
