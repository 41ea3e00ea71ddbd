-- `Scheduler::wait` meets its contract. Assumes nothing.
use Rattle.value_effects.specs.Effects.{wait_model}
use Rattle.value_effects.proofs.Scheduler.wait.Goals as goal

pub returns : goal.returns
unfolding wait_model
returns c = rw (c.wait_on.ensures, c.release-released.ensures)
