-- `timer_stopped` meets its contract: the row and the wheel with the timer stopped, and the ticks left on the wheel before. Assumes nothing.
use Rattle.value_engine.specs.Engines.{timer_stopped}
use Rattle.place_timers.proofs.timer_stopped.Goals as goal

pub returns : goal.returns
unfolding timer_stopped
returns c =
    λ cells counts. rw (c.count_of.ensures, c.left-left.ensures.always, c.stop.ensures.always, c.put_timer.ensures)
