-- `Scheduler::run_first` meets its contract. Assumes nothing.
use Rattle.value_effects.specs.Effects.{run_first_model}
use Rattle.value_effects.proofs.Scheduler.run_first.Goals as goal

pub returns : goal.returns
unfolding run_first_model
returns c = rw (← c.run_first-ran.ensures)
