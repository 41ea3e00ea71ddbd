-- `Engine::timer_stopped` meets its contract: the wheel with the timer stopped, and the ticks left on the wheel before. Assumes nothing.
use Rattle.value_engine.specs.Engines.{timer_stopped}
use Rattle.value_engine.proofs.Engine.timer_stopped.Goals as goal

pub returns : goal.returns
unfolding timer_stopped
returns c =
    rw (c.count_of-given.ensures, c.left-left.ensures.always, c.stop-after.ensures.always)
