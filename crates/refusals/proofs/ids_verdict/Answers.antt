-- `ids_verdict` meets its contract, each return by the tests that led there. Assumes nothing.
use borrow.Author.Tests.{le-leb, lt-leb}
use Rattle.refusals.specs.Verdicts.{ids_verdict}
use Rattle.refusals.proofs.ids_verdict.Goals as goal

pub returns-then-not-started : goal.returns-then-not-started
unfolding ids_verdict
returns-then-not-started c = rw c.if-not-started.true

pub returns-then-first-i : goal.returns-then-first-i
unfolding ids_verdict
returns-then-first-i c = rw (c.if-not-started.false, le-leb _ _ c.if-first-i.true)

pub returns-then-second-j : goal.returns-then-second-j
unfolding ids_verdict
returns-then-second-j c =
    rw (c.if-not-started.false, lt-leb _ _ c.if-first-i.false, le-leb _ _ c.if-second-j.true)

pub returns : goal.returns
unfolding ids_verdict
returns c =
    rw (c.if-not-started.false, lt-leb _ _ c.if-first-i.false, lt-leb _ _ c.if-second-j.false)
