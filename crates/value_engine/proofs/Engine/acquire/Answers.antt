-- `Engine::acquire` meets its contract: by its verdict, and each call by its own. Assumes nothing.
use Rattle.value_engine.specs.Engines.{acquire_model}
use Rattle.value_engine.proofs.Engine.acquire.Goals as goal

pub returns-then-not-is_done : goal.returns-then-not-is_done
unfolding acquire_model
returns-then-not-is_done c =
    rw (← c.row-caller.ensures, ← c.acquire_verdict-verdict.ensures, ← c.is_done.ensures, c.if-not-is_done.true) c.refused.ensures

pub returns : goal.returns
unfolding acquire_model
returns c =
    rw (← c.row-caller.ensures, ← c.acquire_verdict-verdict.ensures, ← c.is_done.ensures, c.if-not-is_done.false, ← c.acquire-after.ensures) c.answered.ensures
