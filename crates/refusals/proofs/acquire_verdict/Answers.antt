-- `acquire_verdict` meets its contract, each return by the tests that led there. Assumes nothing.
use borrow.Author.Tests.{eq-eqb, le-leb, le-ltb, lt-leb, lt-ltb, ne_eqb}
use Rattle.refusals.specs.Verdicts.{acquire_verdict}
use Rattle.refusals.proofs.acquire_verdict.Goals as goal

pub returns-then-not-started : goal.returns-then-not-started
unfolding acquire_verdict
returns-then-not-started c = rw c.if-not-started.true

pub returns-then-mutexes-m : goal.returns-then-mutexes-m
unfolding acquire_verdict
returns-then-mutexes-m c = rw (c.if-not-started.false, le-leb _ _ c.if-mutexes-m.true)

pub returns-then-running-eq0 : goal.returns-then-running-eq0
unfolding acquire_verdict
returns-then-running-eq0 c =
    rw (c.if-not-started.false, lt-leb _ _ c.if-mutexes-m.false, eq-eqb _ _ c.if-running-eq0.true)

pub returns-then-row-eq-MOST_COUNT : goal.returns-then-row-eq-MOST_COUNT
unfolding acquire_verdict
returns-then-row-eq-MOST_COUNT c =
    rw (c.if-not-started.false, lt-leb _ _ c.if-mutexes-m.false, ne_eqb _ _ c.if-running-eq0.false, eq-eqb _ _ c.if-row-running.true, eq-eqb _ _ c.if-row-eq-MOST_COUNT.true)

pub returns-then-row-running : goal.returns-then-row-running
unfolding acquire_verdict
returns-then-row-running c =
    rw (c.if-not-started.false, lt-leb _ _ c.if-mutexes-m.false, ne_eqb _ _ c.if-running-eq0.false, eq-eqb _ _ c.if-row-running.true, ne_eqb _ _ c.if-row-eq-MOST_COUNT.false)

pub returns-then-row-priority : goal.returns-then-row-priority
unfolding acquire_verdict
returns-then-row-priority c =
    rw (c.if-not-started.false, lt-leb _ _ c.if-mutexes-m.false, ne_eqb _ _ c.if-running-eq0.false, ne_eqb _ _ c.if-row-running.false, lt-ltb _ _ c.if-row-priority.true)

pub returns : goal.returns
unfolding acquire_verdict
returns c =
    rw (c.if-not-started.false, lt-leb _ _ c.if-mutexes-m.false, ne_eqb _ _ c.if-running-eq0.false, ne_eqb _ _ c.if-row-running.false, le-ltb _ _ c.if-row-priority.false)
