-- `stop_verdict` meets its contract, each return by the tests that led there. Assumes nothing.
use borrow.Author.Tests.{eq-eqb, ne_eqb}
use Rattle.refusals.specs.Verdicts.{stop_verdict}
use Rattle.refusals.proofs.stop_verdict.Goals as goal

pub returns-then-state-eq-STOPPED : goal.returns-then-state-eq-STOPPED
unfolding stop_verdict
returns-then-state-eq-STOPPED c = rw (eq-eqb _ _ c.if-state-eq-STOPPED.true)

pub returns : goal.returns
unfolding stop_verdict
returns c = rw (ne_eqb _ _ c.if-state-eq-STOPPED.false)
