-- `arrive_in_front` meets its contract. Assumes nothing.
use Rattle.value_tables.specs.Tables.{arrive_in_front_model}
use Rattle.place_tables.specs.Changes.{set_numbered, with_set}
use Rattle.place_queues.proofs.arrive_in_front.Goals as goal

pub returns : goal.returns
unfolding arrive_in_front_model set_numbered with_set
returns c =
    rw (c.stand.ensures, c.join_front.ensures, c.thread_at-row.ensures)
