-- `ceiling_of` meets its contract: by its test. Assumes nothing.
use borrow.Author.Tests.{le-ltb, lt-ltb}
use Rattle.sound_objects.proofs.ceiling_of.Goals as goal

pub returns-then-n-m : goal.returns-then-n-m
returns-then-n-m c = rw (le-ltb _ _ c.if-n-m.true)

pub returns : goal.returns
returns c = rw (lt-ltb _ _ c.if-n-m.false)
