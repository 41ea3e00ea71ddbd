-- `Scheduler::settle` meets its contract: by its test, and each call by its own. Assumes nothing.
use borrow.Author.Tests.{le-ltb, lt-ltb}
use Rattle.value_effects.specs.Effects.{settle_model}
use Rattle.value_effects.proofs.Scheduler.settle.Goals as goal

pub returns-then-t-ge-THREADS : goal.returns-then-t-ge-THREADS
unfolding settle_model
returns-then-t-ge-THREADS c = rw (le-ltb _ _ c.if-t-ge-THREADS.true)

pub returns : goal.returns
unfolding settle_model
returns c =
    rw (lt-ltb _ _ c.if-t-ge-THREADS.false, c.lift-lifted.ensures, c.larger-priority.ensures, c.highest_ceiling-ceiling.ensures)
