-- `Engine::create_thread` meets its contract: by its verdict, and each call by its own. Assumes nothing.
use Rattle.value_engine.specs.Engines.{create_thread_model}
use Rattle.value_engine.proofs.Engine.create_thread.Goals as goal

pub returns-then-not-is_done : goal.returns-then-not-is_done
unfolding create_thread_model
returns-then-not-is_done c =
    rw (← c.created_verdict-verdict.ensures, ← c.is_done.ensures, c.if-not-is_done.true) c.refused.ensures

pub returns : goal.returns
unfolding create_thread_model
returns c =
    rw (← c.created_verdict-verdict.ensures, ← c.is_done.ensures, c.if-not-is_done.false, ← c.create-after.ensures) c.answered.ensures
