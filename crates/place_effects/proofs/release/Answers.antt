-- `release` meets its contract. Assumes nothing.
use Rattle.value_effects.specs.Effects.{release_model}
use borrow.Author.Tests.{lt-ltb, le-ltb}
use Rattle.place_effects.proofs.release.Goals as goal

pub returns-then-row-gt1 : goal.returns-then-row-gt1
unfolding release_model
returns-then-row-gt1 c =
    rw (← c.mutex_at-row.ensures, lt-ltb _ _ c.if-row-gt1.true) c.recount.ensures

pub returns : goal.returns
unfolding release_model
returns c =
    rw (← c.mutex_at-row.ensures, le-ltb _ _ c.if-row-gt1.false) c.pass.ensures
