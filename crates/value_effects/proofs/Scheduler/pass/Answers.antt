-- `Scheduler::pass` meets its contract: by the test on the head, and each call by its own. Assumes nothing.
use borrow.Author.Tests.{le-leb, lt-leb}
use Rattle.value_effects.specs.Effects.{ready_model, pass_to_model, pass_model}
use Rattle.value_effects.proofs.Scheduler.pass.Goals as goal

pub returns-then-first-ge-PRIORITIES : goal.returns-then-first-ge-PRIORITIES
unfolding pass_model
returns-then-first-ge-PRIORITIES c =
    rw (← c.highest_first-first.ensures, le-leb _ _ c.if-first-ge-PRIORITIES.true) c.own.ensures

pub returns : goal.returns
unfolding ready_model pass_to_model pass_model
returns c =
    rw (← c.highest_first-first.ensures, lt-leb _ _ c.if-first-ge-PRIORITIES.false, c.arrive-ready.ensures, c.own-owned.ensures, c.leave-left.ensures)
