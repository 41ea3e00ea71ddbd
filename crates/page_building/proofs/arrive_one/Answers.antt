-- `arrive_one` meets its contract, each return by the tests that led there. Assumes nothing.
use borrow.Author.Tests.{eq-eqb, ne_eqb}
use mathlib.Core.Path.{refl}
use Rattle.page_building.specs.Building.{arrived_where, arrived_one}
use Rattle.page_building.proofs.arrive_one.Goals as goal

pub returns-then-row-place : goal.returns-then-row-place
unfolding arrived_one
returns-then-row-place c = rw (ne_eqb _ _ c.if-row-place.true) refl

pub returns-then-row-eq-READY : goal.returns-then-row-eq-READY
unfolding arrived_one arrived_where
returns-then-row-eq-READY c =
    rw (eq-eqb _ _ c.if-row-place.false, eq-eqb _ _ c.if-row-eq-READY.true) c.arrive.ensures

pub returns-then-row-eq-FOR_MUTEX : goal.returns-then-row-eq-FOR_MUTEX
unfolding arrived_one arrived_where
returns-then-row-eq-FOR_MUTEX c =
    rw (eq-eqb _ _ c.if-row-place.false, ne_eqb _ _ c.if-row-eq-READY.false, eq-eqb _ _ c.if-row-eq-FOR_MUTEX.true) c.wait_for.ensures

pub returns-then-row-eq-ON_CONDITION : goal.returns-then-row-eq-ON_CONDITION
unfolding arrived_one arrived_where
returns-then-row-eq-ON_CONDITION c =
    rw (eq-eqb _ _ c.if-row-place.false, ne_eqb _ _ c.if-row-eq-READY.false, ne_eqb _ _ c.if-row-eq-FOR_MUTEX.false, eq-eqb _ _ c.if-row-eq-ON_CONDITION.true) c.wait_on.ensures

pub returns-else-row-eq-ON_CONDITION : goal.returns-else-row-eq-ON_CONDITION
unfolding arrived_one arrived_where
returns-else-row-eq-ON_CONDITION c =
    rw (eq-eqb _ _ c.if-row-place.false, ne_eqb _ _ c.if-row-eq-READY.false, ne_eqb _ _ c.if-row-eq-FOR_MUTEX.false, ne_eqb _ _ c.if-row-eq-ON_CONDITION.false) refl
