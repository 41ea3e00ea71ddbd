-- `kind` meets its contract: by its tests. Assumes nothing.
use borrow.Author.Tests.{eq-eqb, ne_eqb}
use Rattle.sound_standing.specs.Standing.{kind_of}
use Rattle.sound_standing.proofs.kind.Goals as goal

pub returns-then-state-eq-READY : goal.returns-then-state-eq-READY
unfolding kind_of
returns-then-state-eq-READY c = rw (eq-eqb _ _ c.if-state-eq-READY.true)

pub returns-then-state-eq-RUNNING : goal.returns-then-state-eq-RUNNING
unfolding kind_of
returns-then-state-eq-RUNNING c = rw (ne_eqb _ _ c.if-state-eq-READY.false, eq-eqb _ _ c.if-state-eq-RUNNING.true)

pub returns-then-state-eq-FOR_MUTEX : goal.returns-then-state-eq-FOR_MUTEX
unfolding kind_of
returns-then-state-eq-FOR_MUTEX c =
    rw (ne_eqb _ _ c.if-state-eq-READY.false, ne_eqb _ _ c.if-state-eq-RUNNING.false, eq-eqb _ _ c.if-state-eq-FOR_MUTEX.true)

pub returns : goal.returns
unfolding kind_of
returns c =
    rw (ne_eqb _ _ c.if-state-eq-READY.false, ne_eqb _ _ c.if-state-eq-RUNNING.false, ne_eqb _ _ c.if-state-eq-FOR_MUTEX.false)
