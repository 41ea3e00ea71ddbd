-- `Engine::serve` meets its contract: by the test on the state, and each call by its own. Assumes nothing.
use borrow.Author.Tests.{eq-eqb, ne_eqb}
use Rattle.value_engine.specs.Engines.{serve_model}
use Rattle.value_engine.proofs.Engine.serve.Goals as goal

pub returns-then-row-eq-PERIODIC : goal.returns-then-row-eq-PERIODIC
unfolding serve_model
returns-then-row-eq-PERIODIC c =
    rw (eq-eqb _ _ c.if-row-eq-PERIODIC.true, ← c.signal-signalled.ensures, ← c.start-again.ensures.always)

pub returns : goal.returns
unfolding serve_model
returns c =
    rw (ne_eqb _ _ c.if-row-eq-PERIODIC.false, ← c.signal-signalled.ensures)
