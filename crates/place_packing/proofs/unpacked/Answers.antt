-- `unpacked` meets its contract: each table by its own. Assumes nothing.
use Rattle.place_tables.specs.Cells.{scheduler_in}
use Rattle.place_packing.proofs.unpacked.Goals as goal

pub returns : goal.returns
unfolding scheduler_in
returns c =
    (λ i. record {
      threads = record { rows = c.rows_in.ensures i; links = record { next = c.links_in.ensures i }; ready = record { levels = c.levels_in.ensures i } };
      mutexes = c.mutexes_in.ensures i;
      formutex = c.sets_in.ensures i;
      ties = c.ties_in.ensures i;
      oncondition = c.sets_in-2.ensures i;
      running = c.running_at.ensures i;
    })
