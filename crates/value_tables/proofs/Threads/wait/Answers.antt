-- `Threads::wait` meets its contract. Assumes nothing.
use Rattle.value_tables.specs.Tables.{wait_model}
use Rattle.value_tables.proofs.Threads.wait.Goals as goal

pub returns : goal.returns
unfolding wait_model
returns c = rw (c.stand-threads.ensures, c.join-joined.ensures)
