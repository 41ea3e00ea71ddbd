-- `wake` meets its contract. Assumes nothing.
use Rattle.value_effects.specs.Effects.{wake_model}
use borrow.Author.Tests.{eq-eqb, ne_eqb}
use Rattle.place_effects.proofs.wake.Goals as goal

pub returns-then-mutex : goal.returns-then-mutex
unfolding wake_model
returns-then-mutex c =
    rw (c.arrive.ensures, c.own.ensures, ← c.mutex_at-mutex.ensures, eq-eqb _ _ c.if-mutex.true)

pub returns : goal.returns
unfolding wake_model
returns c =
    rw (← c.mutex_at-mutex.ensures, ne_eqb _ _ c.if-mutex.false) c.wait_for.ensures
