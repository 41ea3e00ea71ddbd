-- `running_row` meets its contract. Assumes nothing.
use Rattle.page_building.specs.Building.{running_row}
use Rattle.page_building.proofs.running_row.Goals as goal

pub returns : goal.returns
unfolding running_row
returns c = rw (c.max-priority.ensures, c.highest_ceiling-ceiling.ensures)
