-- `top_of` meets its contract: by its test, and each call by its own. Assumes nothing.
use borrow.Author.Tests.{le-ltb, lt-ltb}
use Rattle.sound_standing.specs.Standing.{top_in}
use Rattle.sound_standing.proofs.top_of.Goals as goal

pub returns-then-n-t : goal.returns-then-n-t
unfolding top_in
returns-then-n-t c =
    rw (c.larger.ensures, c.highest_ceiling-ceiling.ensures, le-ltb _ _ c.if-n-t.true)

pub returns : goal.returns
unfolding top_in
returns c =
    rw (c.larger-2.ensures, c.highest_ceiling-ceiling.ensures, lt-ltb _ _ c.if-n-t.false)
