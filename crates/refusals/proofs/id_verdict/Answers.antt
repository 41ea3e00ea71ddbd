-- `id_verdict` meets its contract, each return by the tests that led there. Assumes nothing.
use borrow.Author.Tests.{le-leb, lt-leb}
use Rattle.refusals.specs.Verdicts.{id_verdict}
use Rattle.refusals.proofs.id_verdict.Goals as goal

pub returns-then-not-started : goal.returns-then-not-started
unfolding id_verdict
returns-then-not-started c = rw c.if-not-started.true

pub returns-then-count-i : goal.returns-then-count-i
unfolding id_verdict
returns-then-count-i c = rw (c.if-not-started.false, le-leb _ _ c.if-count-i.true)

pub returns : goal.returns
unfolding id_verdict
returns c = rw (c.if-not-started.false, lt-leb _ _ c.if-count-i.false)
