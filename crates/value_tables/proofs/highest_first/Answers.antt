-- `highest_first` meets its contract. Assumes nothing.
use Rattle.value_tables.specs.Tables.{head_model}
use Rattle.value_tables.proofs.highest_first.Goals as goal

pub returns : goal.returns
unfolding head_model
returns c = rw (c.level-queue.ensures, c.highest-priority.ensures)
