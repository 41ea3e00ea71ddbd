-- `first_scheduler` meets its contract. Assumes nothing.
use Rattle.value_engine.specs.Engines.{boot_model}
use Rattle.value_engine.proofs.first_scheduler.Goals as goal

pub returns : goal.returns
unfolding boot_model
returns c =
    rw (c.empty-empty.ensures, c.arrive-threads.ensures, c.empty-ready.ensures, c.empty-links.ensures)
