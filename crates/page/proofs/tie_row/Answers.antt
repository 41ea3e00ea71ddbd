-- `tie_row` meets its contract: as `load` does. Assumes nothing.
use Rattle.page.proofs.tie_row.Goals as goal

pub returns : goal.returns
returns c = c.load.ensures
