-- `Scheduler::wake` meets its contract: by the test on the owner, and each call by its own. Assumes nothing.
use borrow.Author.Tests.{eq-eqb, ne_eqb}
use Rattle.value_effects.specs.Effects.{ready_model, wake_model}
use Rattle.value_effects.proofs.Scheduler.wake.Goals as goal

pub returns-then-row : goal.returns-then-row
unfolding ready_model wake_model
returns-then-row c =
    rw (eq-eqb _ _ c.if-row.true, c.arrive-ready.ensures, c.own-owned.ensures)

pub returns : goal.returns
unfolding wake_model
returns c = rw (ne_eqb _ _ c.if-row.false) c.wait_for.ensures
