-- `thread_row` meets its contract: as `load` does. Assumes nothing.
use Rattle.page.proofs.thread_row.Goals as goal

pub returns : goal.returns
returns c = c.load.ensures
