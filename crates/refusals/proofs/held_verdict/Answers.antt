-- `held_verdict` meets its contract, each return by the tests that led there. Assumes nothing.
use borrow.Author.Tests.{eq-eqb, le-ltb, lt-ltb, ne_eqb}
use Rattle.refusals.specs.Verdicts.{held_verdict}
use Rattle.refusals.proofs.held_verdict.Goals as goal

pub returns-then-running-eq0 : goal.returns-then-running-eq0
unfolding held_verdict
returns-then-running-eq0 c = rw (eq-eqb _ _ c.if-running-eq0.true)

pub returns-then-row-running : goal.returns-then-row-running
unfolding held_verdict
returns-then-row-running c = rw (ne_eqb _ _ c.if-running-eq0.false, ne_eqb _ _ c.if-row-running.true)

pub returns-then-row-gt1 : goal.returns-then-row-gt1
unfolding held_verdict
returns-then-row-gt1 c =
    rw (ne_eqb _ _ c.if-running-eq0.false, eq-eqb _ _ c.if-row-running.false, lt-ltb _ _ c.if-row-gt1.true)

pub returns-then-owned-gt1 : goal.returns-then-owned-gt1
unfolding held_verdict
returns-then-owned-gt1 c =
    rw (ne_eqb _ _ c.if-running-eq0.false, eq-eqb _ _ c.if-row-running.false, le-ltb _ _ c.if-row-gt1.false, lt-ltb _ _ c.if-owned-gt1.true)

pub returns-then-tie-eq-NONE : goal.returns-then-tie-eq-NONE
unfolding held_verdict
returns-then-tie-eq-NONE c =
    rw (ne_eqb _ _ c.if-running-eq0.false, eq-eqb _ _ c.if-row-running.false, le-ltb _ _ c.if-row-gt1.false, le-ltb _ _ c.if-owned-gt1.false, eq-eqb _ _ c.if-tie-eq-NONE.true)

pub returns-then-tie-m : goal.returns-then-tie-m
unfolding held_verdict
returns-then-tie-m c =
    rw (ne_eqb _ _ c.if-running-eq0.false, eq-eqb _ _ c.if-row-running.false, le-ltb _ _ c.if-row-gt1.false, le-ltb _ _ c.if-owned-gt1.false, ne_eqb _ _ c.if-tie-eq-NONE.false, eq-eqb _ _ c.if-tie-m.true)

pub returns : goal.returns
unfolding held_verdict
returns c =
    rw (ne_eqb _ _ c.if-running-eq0.false, eq-eqb _ _ c.if-row-running.false, le-ltb _ _ c.if-row-gt1.false, le-ltb _ _ c.if-owned-gt1.false, ne_eqb _ _ c.if-tie-eq-NONE.false, ne_eqb _ _ c.if-tie-m.false)
