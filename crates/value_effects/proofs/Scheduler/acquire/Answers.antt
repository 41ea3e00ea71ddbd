-- `Scheduler::acquire` meets its contract: by the tests on the owner, and each call by its own. Assumes nothing.
use borrow.Author.Tests.{eq-eqb, ne_eqb}
use Rattle.value_effects.specs.Effects.{acquire_model}
use Rattle.value_effects.proofs.Scheduler.acquire.Goals as goal

pub returns-then-row-caller : goal.returns-then-row-caller
unfolding acquire_model
returns-then-row-caller c = rw (eq-eqb _ _ c.if-row-caller.true) c.recount.ensures

pub returns-then-row : goal.returns-then-row
unfolding acquire_model
returns-then-row c =
    rw (ne_eqb _ _ c.if-row-caller.false, eq-eqb _ _ c.if-row.true) c.own.ensures

pub returns : goal.returns
unfolding acquire_model
returns c =
    rw (ne_eqb _ _ c.if-row-caller.false, ne_eqb _ _ c.if-row.false) c.wait_for.ensures
