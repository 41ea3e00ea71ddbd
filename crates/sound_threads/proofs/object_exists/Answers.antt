-- `object_exists` meets its contract: by the kind of the state. Assumes nothing.
use borrow.Author.Tests.{eq-eqb, ne_eqb, lt-ltb, le-ltb}
use Rattle.sound_threads.proofs.Waiting.{exists_kind}
use Rattle.sound_threads.proofs.object_exists.Goals as goal

pub returns-then-here-lt-FOR_MUTEX : goal.returns-then-here-lt-FOR_MUTEX
returns-then-here-lt-FOR_MUTEX c = rw (exists_kind _ _ _ _, ← c.kind-here.ensures, lt-ltb _ _ c.if-here-lt-FOR_MUTEX.true)

pub returns-then-here-eq-FOR_MUTEX : goal.returns-then-here-eq-FOR_MUTEX
returns-then-here-eq-FOR_MUTEX c =
    rw (exists_kind _ _ _ _, ← c.kind-here.ensures, le-ltb _ _ c.if-here-lt-FOR_MUTEX.false, eq-eqb _ _ c.if-here-eq-FOR_MUTEX.true)

pub returns : goal.returns
returns c =
    rw (exists_kind _ _ _ _, ← c.kind-here.ensures, le-ltb _ _ c.if-here-lt-FOR_MUTEX.false, ne_eqb _ _ c.if-here-eq-FOR_MUTEX.false)
