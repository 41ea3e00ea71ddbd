-- `Scheduler::wait_for` meets its contract. Assumes nothing.
use Rattle.value_effects.specs.Effects.{wait_for_model}
use Rattle.value_effects.proofs.Scheduler.wait_for.Goals as goal

pub returns : goal.returns
unfolding wait_for_model
returns c = rw c.wait-waiting.ensures
