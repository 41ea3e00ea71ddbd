-- `Links::remove` does what its definition says. Assumes nothing.
use borrow.Author.Tests.{lt-ltb, le-ltb, eq-eqb, ne_eqb}
use Rattle.queue.proofs.Cases.{cases}
use Rattle.queue.specs.Linking.{remove_behind, remove_model}
use Rattle.queue.proofs.Links.remove.Goals as goal

pub returns-then-t-ge-THREADS : goal.returns-then-t-ge-THREADS
unfolding remove_model
returns-then-t-ge-THREADS c = search cases

pub returns-then-first-t : goal.returns-then-first-t
unfolding remove_model
returns-then-first-t c =
    rw (c.leave.ensures, lt-ltb _ _ c.if-t-ge-THREADS.false, eq-eqb _ _ c.if-first-t.true)

pub returns-then-ahead-ge-THREADS : goal.returns-then-ahead-ge-THREADS
unfolding remove_behind remove_model
returns-then-ahead-ge-THREADS c =
    rw (lt-ltb _ _ c.if-t-ge-THREADS.false, ne_eqb _ _ c.if-first-t.false, ← c.ahead-ahead.ensures, le-ltb _ _ c.if-ahead-ge-THREADS.true)

pub returns-then-last-t : goal.returns-then-last-t
unfolding remove_behind remove_model
returns-then-last-t c =
    rw (lt-ltb _ _ c.if-t-ge-THREADS.false, ne_eqb _ _ c.if-first-t.false, ← c.ahead-ahead.ensures, lt-ltb _ _ c.if-ahead-ge-THREADS.false, eq-eqb _ _ c.if-last-t.true)

pub returns : goal.returns
unfolding remove_behind remove_model
returns c =
    rw (lt-ltb _ _ c.if-t-ge-THREADS.false, ne_eqb _ _ c.if-first-t.false, ← c.ahead-ahead.ensures, lt-ltb _ _ c.if-ahead-ge-THREADS.false, ne_eqb _ _ c.if-last-t.false)
