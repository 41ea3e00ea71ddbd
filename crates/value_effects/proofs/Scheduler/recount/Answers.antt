-- `Scheduler::recount` meets its contract: the row is the definition's. Assumes nothing.
use Rattle.value_effects.specs.Effects.{recount_model}
use mathlib.Core.Path.{refl}
use Rattle.value_effects.proofs.Scheduler.recount.Goals as goal

pub returns : goal.returns
unfolding recount_model
returns c = refl
