-- `running_at` meets its contract: the bytes read are the row, the link, the queue or the tie that stands there. Assumes nothing.
use Rattle.place_tables.specs.Cells.{scheduler_in}
use Rattle.place_tables.proofs.running_at.Goals as goal

pub returns : goal.returns
unfolding scheduler_in
returns c = c.load.ensures
