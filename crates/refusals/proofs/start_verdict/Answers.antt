-- `start_verdict` meets its contract, each return by the tests that led there. Assumes nothing.
use Rattle.refusals.specs.Verdicts.{start_verdict}
use Rattle.refusals.proofs.start_verdict.Goals as goal

pub returns-then-started : goal.returns-then-started
unfolding start_verdict
returns-then-started c = rw c.if-started.true

pub returns : goal.returns
unfolding start_verdict
returns c = rw c.if-started.false
