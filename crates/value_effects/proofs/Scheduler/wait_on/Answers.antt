-- `Scheduler::wait_on` meets its contract. Assumes nothing.
use Rattle.value_effects.specs.Effects.{wait_on_model}
use Rattle.value_effects.proofs.Scheduler.wait_on.Goals as goal

pub returns : goal.returns
unfolding wait_on_model
returns c = rw c.wait-waiting.ensures
