-- `Scheduler::release` meets its contract: by the test on the count, and each call by its own. Assumes nothing.
use borrow.Author.Tests.{le-ltb, lt-ltb}
use Rattle.value_effects.specs.Effects.{release_model}
use Rattle.value_effects.proofs.Scheduler.release.Goals as goal

pub returns-then-row-gt1 : goal.returns-then-row-gt1
unfolding release_model
returns-then-row-gt1 c = rw (lt-ltb _ _ c.if-row-gt1.true) c.recount.ensures

pub returns : goal.returns
unfolding release_model
returns c = rw (le-ltb _ _ c.if-row-gt1.false) c.pass.ensures
