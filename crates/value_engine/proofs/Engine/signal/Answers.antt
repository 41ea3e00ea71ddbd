-- `Engine::signal` meets its contract: by its verdict, and each call by its own. Assumes nothing.
use Rattle.value_engine.specs.Engines.{signal_model}
use Rattle.value_engine.proofs.Engine.signal.Goals as goal

pub returns-then-not-is_done : goal.returns-then-not-is_done
unfolding signal_model
returns-then-not-is_done c =
    rw (← c.id_verdict-verdict.ensures, ← c.is_done.ensures, c.if-not-is_done.true) c.refused.ensures

pub returns : goal.returns
unfolding signal_model
returns c =
    rw (← c.id_verdict-verdict.ensures, ← c.is_done.ensures, c.if-not-is_done.false, ← c.signal-signalled.ensures) c.answered.ensures
