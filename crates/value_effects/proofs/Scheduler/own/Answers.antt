-- `Scheduler::own` meets its contract. Assumes nothing.
use Rattle.value_effects.specs.Effects.{own_model}
use Rattle.value_effects.proofs.Scheduler.own.Goals as goal

pub returns : goal.returns
unfolding own_model
returns c = rw (c.settle.ensures, c.settle-settled.ensures)
