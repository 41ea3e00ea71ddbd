-- `Scheduler::choose_next` meets its contract. Assumes nothing.
use Rattle.value_effects.specs.Effects.{choose_next_model}
use Rattle.value_effects.proofs.Scheduler.choose_next.Goals as goal

pub returns : goal.returns
unfolding choose_next_model
returns c = rw (← c.choose_next-ran.ensures)
