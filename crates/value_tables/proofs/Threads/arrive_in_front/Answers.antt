-- `Threads::arrive_in_front` meets its contract. Assumes nothing.
use Rattle.value_tables.specs.Tables.{arrive_in_front_model}
use Rattle.value_tables.proofs.Threads.arrive_in_front.Goals as goal

pub returns : goal.returns
unfolding arrive_in_front_model
returns c = rw (c.stand.ensures, c.join_front-joined.ensures)
