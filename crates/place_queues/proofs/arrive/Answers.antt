-- `arrive` meets its contract. Assumes nothing.
use Rattle.value_tables.specs.Tables.{arrive_model}
use Rattle.value_effects.specs.Effects.{ready_model}
use Rattle.place_tables.specs.Changes.{set_numbered, with_set}
use Rattle.place_queues.proofs.arrive.Goals as goal

pub returns : goal.returns
unfolding ready_model arrive_model set_numbered with_set
returns c =
    rw (c.stand.ensures, c.join.ensures, c.thread_at-row.ensures)
