-- `Threads::choose_next` meets its contract: by the tests in their order, and each call by its own. Assumes nothing.
use borrow.Author.Tests.{le-leb, lt-leb, lt-ltb, le-ltb, eq-eqb, ne_eqb}
use Rattle.value_tables.specs.Tables.{choose_next_model}
use Rattle.value_tables.proofs.Threads.choose_next.Goals as goal

pub returns-then-row-ge-FOR_MUTEX : goal.returns-then-row-ge-FOR_MUTEX
unfolding choose_next_model
returns-then-row-ge-FOR_MUTEX c = rw (le-leb _ _ c.if-row-ge-FOR_MUTEX.true) c.run_first.ensures

pub returns-then-first-ge-PRIORITIES : goal.returns-then-first-ge-PRIORITIES
unfolding choose_next_model
returns-then-first-ge-PRIORITIES c =
    rw (lt-leb _ _ c.if-row-ge-FOR_MUTEX.false, ← c.highest_first-first.ensures, le-leb _ _ c.if-first-ge-PRIORITIES.true)

pub returns-then-row-first : goal.returns-then-row-first
unfolding choose_next_model
returns-then-row-first c =
    rw (lt-leb _ _ c.if-row-ge-FOR_MUTEX.false, ← c.highest_first-first.ensures, lt-leb _ _ c.if-first-ge-PRIORITIES.false, lt-ltb _ _ c.if-row-first.true, ← c.arrive_in_front-in_front.ensures) c.run_first-then-row-first.ensures

pub returns-then-row-first-2 : goal.returns-then-row-first-2
unfolding choose_next_model
returns-then-row-first-2 c =
    rw (lt-leb _ _ c.if-row-ge-FOR_MUTEX.false, ← c.highest_first-first.ensures, lt-leb _ _ c.if-first-ge-PRIORITIES.false, le-ltb _ _ c.if-row-first.false, c.if-tick.true, eq-eqb _ _ c.if-row-first-2.true, ← c.arrive-behind.ensures) c.run_first-then-row-first-2.ensures

pub returns-else-row-first-2 : goal.returns-else-row-first-2
unfolding choose_next_model
returns-else-row-first-2 c =
    rw (lt-leb _ _ c.if-row-ge-FOR_MUTEX.false, ← c.highest_first-first.ensures, lt-leb _ _ c.if-first-ge-PRIORITIES.false, le-ltb _ _ c.if-row-first.false, c.if-tick.true, ne_eqb _ _ c.if-row-first-2.false)

pub returns-else-tick : goal.returns-else-tick
unfolding choose_next_model
returns-else-tick c =
    rw (lt-leb _ _ c.if-row-ge-FOR_MUTEX.false, ← c.highest_first-first.ensures, lt-leb _ _ c.if-first-ge-PRIORITIES.false, le-ltb _ _ c.if-row-first.false, c.if-tick.false)
