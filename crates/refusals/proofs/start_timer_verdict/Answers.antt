-- `start_timer_verdict` meets its contract, each return by the tests that led there. Assumes nothing.
use borrow.Author.Tests.{eq-eqb, ne_eqb}
use Rattle.refusals.specs.Verdicts.{start_timer_verdict}
use Rattle.refusals.proofs.start_timer_verdict.Goals as goal

pub returns-then-state-ne-STOPPED : goal.returns-then-state-ne-STOPPED
unfolding start_timer_verdict
returns-then-state-ne-STOPPED c = rw (ne_eqb _ _ c.if-state-ne-STOPPED.true)

pub returns : goal.returns
unfolding start_timer_verdict
returns c = rw (eq-eqb _ _ c.if-state-ne-STOPPED.false)
