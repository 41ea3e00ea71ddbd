-- `Engine::stop_timer` meets its contract: by its verdict, and each call by its own. Assumes nothing.
use Rattle.value_engine.specs.Engines.{stop_timer_model}
use Rattle.value_engine.proofs.Engine.stop_timer.Goals as goal

pub returns-then-not-is_done : goal.returns-then-not-is_done
unfolding stop_timer_model
returns-then-not-is_done c =
    rw (← c.id_verdict-ids.ensures, ← c.stop_verdict-state.ensures, ← c.first_of-verdict.ensures, ← c.is_done.ensures, c.if-not-is_done.true) c.refused.ensures

pub returns : goal.returns
unfolding stop_timer_model
returns c =
    rw (← c.id_verdict-ids.ensures, ← c.stop_verdict-state.ensures, ← c.first_of-verdict.ensures, ← c.is_done.ensures, c.if-not-is_done.false, ← c.timer_stopped-effect.ensures) c.answered.ensures
