-- `Engine::create_condition` meets its contract: by its verdict, and each call by its own. Assumes nothing.
use Rattle.value_engine.specs.Engines.{create_condition_model}
use Rattle.value_engine.proofs.Engine.create_condition.Goals as goal

pub returns-then-not-is_done : goal.returns-then-not-is_done
unfolding create_condition_model
returns-then-not-is_done c =
    rw (← c.room_verdict-verdict.ensures, ← c.is_done.ensures, c.if-not-is_done.true) c.refused.ensures

pub returns : goal.returns
unfolding create_condition_model
returns c =
    rw (← c.room_verdict-verdict.ensures, ← c.is_done.ensures, c.if-not-is_done.false) c.answered.ensures
