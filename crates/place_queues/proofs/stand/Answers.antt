-- `stand` meets its contract. Assumes nothing.
use Rattle.value_tables.specs.Tables.{stand_model}
use Rattle.place_queues.proofs.stand.Goals as goal

pub returns : goal.returns
unfolding stand_model
returns c = rw (c.put_thread.ensures, c.thread_at-row.ensures)
