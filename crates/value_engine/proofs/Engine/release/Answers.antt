-- `Engine::release` meets its contract: by its verdict, and each call by its own. Assumes nothing.
use Rattle.value_engine.specs.Engines.{release_model}
use Rattle.value_engine.proofs.Engine.release.Goals as goal

pub returns-then-not-is_done : goal.returns-then-not-is_done
unfolding release_model
returns-then-not-is_done c =
    rw (← c.release_verdict-verdict.ensures, ← c.is_done.ensures, c.if-not-is_done.true) c.refused.ensures

pub returns : goal.returns
unfolding release_model
returns c =
    rw (← c.release_verdict-verdict.ensures, ← c.is_done.ensures, c.if-not-is_done.false, ← c.release-after.ensures) c.answered.ensures
