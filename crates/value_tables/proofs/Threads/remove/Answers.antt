-- `Threads::remove` meets its contract. Assumes nothing.
use Rattle.value_tables.specs.Tables.{remove_model_in}
use Rattle.value_tables.proofs.Threads.remove.Goals as goal

pub returns : goal.returns
unfolding remove_model_in
returns c = rw c.remove-removed.ensures
