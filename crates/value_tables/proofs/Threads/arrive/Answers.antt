-- `Threads::arrive` meets its contract. Assumes nothing.
use Rattle.value_tables.specs.Tables.{arrive_model}
use Rattle.value_tables.proofs.Threads.arrive.Goals as goal

pub returns : goal.returns
unfolding arrive_model
returns c = rw (c.stand.ensures, c.join-joined.ensures)
