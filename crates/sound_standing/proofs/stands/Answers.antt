-- `stands` meets its contract: by the kinds of the two states. Assumes nothing.
use borrow.Author.Tests.{eq-eqb, ne_eqb, lt-ltb, le-ltb}
use Rattle.sound_standing.proofs.Standing.{same_kinds}
use Rattle.sound_standing.proofs.stands.Goals as goal

pub returns-then-here-there : goal.returns-then-here-there
returns-then-here-there c =
    rw (same_kinds _ _ _ _, ← c.kind-there.ensures, ← c.kind-here.ensures, ne_eqb _ _ c.if-here-there.true)

pub returns-then-here-lt-FOR_MUTEX : goal.returns-then-here-lt-FOR_MUTEX
returns-then-here-lt-FOR_MUTEX c =
    rw (same_kinds _ _ _ _, ← c.kind-there.ensures, ← c.kind-here.ensures, eq-eqb _ _ c.if-here-there.false, lt-ltb _ _ c.if-here-lt-FOR_MUTEX.true)

pub returns : goal.returns
returns c =
    rw (same_kinds _ _ _ _, ← c.kind-there.ensures, ← c.kind-here.ensures, eq-eqb _ _ c.if-here-there.false, le-ltb _ _ c.if-here-lt-FOR_MUTEX.false)
