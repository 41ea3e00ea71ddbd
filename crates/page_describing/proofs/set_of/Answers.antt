-- `set_of` meets its contract: by the tests on the state. Assumes nothing.
use borrow.Author.Tests.{eq-eqb, ne_eqb}
use Rattle.page_describing.specs.Describing.{set_number}
use Rattle.page_describing.proofs.set_of.Goals as goal

pub returns-then-row-eq-READY : goal.returns-then-row-eq-READY
unfolding set_number
returns-then-row-eq-READY c = rw (eq-eqb _ _ c.if-row-eq-READY.true)

pub returns-then-row-eq-FOR_MUTEX : goal.returns-then-row-eq-FOR_MUTEX
unfolding set_number
returns-then-row-eq-FOR_MUTEX c = rw (ne_eqb _ _ c.if-row-eq-READY.false, eq-eqb _ _ c.if-row-eq-FOR_MUTEX.true)

pub returns : goal.returns
unfolding set_number
returns c = rw (ne_eqb _ _ c.if-row-eq-READY.false, ne_eqb _ _ c.if-row-eq-FOR_MUTEX.false)
