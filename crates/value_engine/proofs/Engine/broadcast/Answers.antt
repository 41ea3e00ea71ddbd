-- `Engine::broadcast` meets its contract: by its verdict, and each call by its own. Assumes nothing.
use Rattle.value_engine.specs.Engines.{broadcast_model}
use Rattle.value_engine.proofs.Engine.broadcast.Goals as goal

pub returns-then-not-is_done : goal.returns-then-not-is_done
unfolding broadcast_model
returns-then-not-is_done c =
    rw (← c.id_verdict-verdict.ensures, ← c.is_done.ensures, c.if-not-is_done.true) c.refused.ensures

pub returns : goal.returns
unfolding broadcast_model
returns c =
    rw (← c.id_verdict-verdict.ensures, ← c.is_done.ensures, c.if-not-is_done.false, ← c.broadcast-woken.ensures) c.answered.ensures
