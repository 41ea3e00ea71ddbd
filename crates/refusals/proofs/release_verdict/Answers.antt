-- `release_verdict` meets its contract, each return by the tests that led there. Assumes nothing.
use borrow.Author.Tests.{eq-eqb, le-leb, lt-leb, ne_eqb}
use Rattle.refusals.specs.Verdicts.{release_verdict}
use Rattle.refusals.proofs.release_verdict.Goals as goal

pub returns-then-not-started : goal.returns-then-not-started
unfolding release_verdict
returns-then-not-started c = rw c.if-not-started.true

pub returns-then-mutexes-m : goal.returns-then-mutexes-m
unfolding release_verdict
returns-then-mutexes-m c = rw (c.if-not-started.false, le-leb _ _ c.if-mutexes-m.true)

pub returns-then-owner-running : goal.returns-then-owner-running
unfolding release_verdict
returns-then-owner-running c =
    rw (c.if-not-started.false, lt-leb _ _ c.if-mutexes-m.false, eq-eqb _ _ c.if-owner-running.true)

pub returns : goal.returns
unfolding release_verdict
returns c =
    rw (c.if-not-started.false, lt-leb _ _ c.if-mutexes-m.false, ne_eqb _ _ c.if-owner-running.false)
