-- `Engine::start` meets its contract: by its verdict, and each call by its own. Assumes nothing.
use Rattle.value_engine.specs.Engines.{start_model}
use Rattle.value_engine.proofs.Engine.start.Goals as goal

pub returns-then-not-is_done : goal.returns-then-not-is_done
unfolding start_model
returns-then-not-is_done c =
    rw (← c.start_verdict-verdict.ensures, ← c.is_done.ensures, c.if-not-is_done.true) c.refused.ensures

pub returns : goal.returns
unfolding start_model
returns c =
    rw (← c.start_verdict-verdict.ensures, ← c.is_done.ensures, c.if-not-is_done.false, ← c.run_first-after.ensures) c.answered.ensures
