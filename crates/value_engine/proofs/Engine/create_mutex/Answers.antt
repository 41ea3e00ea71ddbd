-- `Engine::create_mutex` meets its contract: by its verdict, and each call by its own. Assumes nothing.
use Rattle.value_engine.specs.Engines.{create_mutex_model}
use Rattle.value_engine.proofs.Engine.create_mutex.Goals as goal

pub returns-then-not-is_done : goal.returns-then-not-is_done
unfolding create_mutex_model
returns-then-not-is_done c =
    rw (← c.created_verdict-verdict.ensures, ← c.is_done.ensures, c.if-not-is_done.true) c.refused.ensures

pub returns : goal.returns
unfolding create_mutex_model
returns c =
    rw (← c.created_verdict-verdict.ensures, ← c.is_done.ensures, c.if-not-is_done.false, ← c.create_mutex-after.ensures) c.answered.ensures
