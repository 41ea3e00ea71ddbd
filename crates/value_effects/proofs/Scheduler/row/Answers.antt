-- `Scheduler::row` meets its contract: the row is read. Assumes nothing.
use mathlib.Core.Path.{refl}
use Rattle.value_effects.specs.Effects.{thread_row_model}
use Rattle.value_effects.proofs.Scheduler.row.Goals as goal

pub returns : goal.returns
unfolding thread_row_model
returns c = refl
