-- `Links::leave` does what its definition says. Assumes nothing.
use borrow.Author.Tests.{lt-ltb, le-ltb}
use Rattle.queue.proofs.Cases.{cases}
use Rattle.queue.specs.Linking.{leave_model}
use Rattle.queue.proofs.Links.leave.Goals as goal

pub returns-then-first-ge-THREADS : goal.returns-then-first-ge-THREADS
unfolding leave_model
returns-then-first-ge-THREADS c = search cases

pub returns-then-after-lt-THREADS : goal.returns-then-after-lt-THREADS
unfolding leave_model
returns-then-after-lt-THREADS c = search cases

pub returns : goal.returns
unfolding leave_model
returns c =
    rw (c.empty-queue.ensures, lt-ltb _ _ c.if-first-ge-THREADS.false, le-ltb _ _ c.if-after-lt-THREADS.false)
