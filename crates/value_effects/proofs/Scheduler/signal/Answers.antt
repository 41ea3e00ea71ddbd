-- `Scheduler::signal` meets its contract: by the tests on the heads, and each call by its own. Assumes nothing.
use borrow.Author.Tests.{le-leb, lt-leb}
use Rattle.value_effects.specs.Effects.{leave_condition_model, untie_model, signal_to_model, signal_model}
use Rattle.value_effects.proofs.Scheduler.signal.Goals.{then-next-ge-PRIORITIES, else-next-ge-PRIORITIES}
use Rattle.value_effects.proofs.Scheduler.signal.Goals as goal

pub returns-then-first-ge-PRIORITIES : goal.returns-then-first-ge-PRIORITIES
unfolding signal_model
returns-then-first-ge-PRIORITIES c = rw (← c.highest_first-first.ensures, le-leb _ _ c.if-first-ge-PRIORITIES.true)

pub returns : goal.returns
unfolding leave_condition_model untie_model signal_to_model signal_model
returns c =
    rw (← c.highest_first-first.ensures, lt-leb _ _ c.if-first-ge-PRIORITIES.false, ← c.leave-left.ensures, ← c.highest_first-next.ensures, c.wake-scheduler.ensures)
    (elim c.if-next-ge-PRIORITIES.branch [
      | then-next-ge-PRIORITIES w ↦ rw (le-leb _ _ w.if-next-ge-PRIORITIES.true, w.self-is)
      | else-next-ge-PRIORITIES w ↦ rw (lt-leb _ _ w.if-next-ge-PRIORITIES.false, w.self-is)
    ])
