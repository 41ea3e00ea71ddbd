-- `Scheduler::create_mutex` meets its contract: the row is the definition's. Assumes nothing.
use mathlib.Core.Path.{refl}
use Rattle.value_effects.specs.Effects.{create_mutex_model}
use Rattle.value_effects.proofs.Scheduler.create_mutex.Goals as goal

pub returns : goal.returns
unfolding create_mutex_model
returns c = refl
