-- `Scheduler::create` meets its contract. Assumes nothing.
use Rattle.value_effects.specs.Effects.{ready_model, create_model}
use Rattle.value_effects.proofs.Scheduler.create.Goals as goal

pub returns : goal.returns
unfolding ready_model create_model
returns c = rw c.arrive-arrived.ensures
