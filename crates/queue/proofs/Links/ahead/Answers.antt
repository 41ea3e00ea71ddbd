-- `Links::ahead` goes the way that its definition says. The invariant: from the thread met, along the links that are left, the way gives what the whole
-- way gives. Assumes nothing.
use mathlib.Core.Path.{refl}
use native.Mathlib.Omega.{arith}
use Rattle.queue.proofs.Searches.{way_begins, way_ends, way_spent, way_found, way_on}
use Rattle.queue.proofs.Links.ahead.Goals as goal

pub loop-passed-init : goal.loop-passed-init
loop-passed-init c = way_begins _ _ _

pub returns-then-met-ge-THREADS : goal.returns-then-met-ge-THREADS
returns-then-met-ge-THREADS c = way_ends _ _ _ _ _ c.loop-passed.invariant c.if-met-ge-THREADS.true

pub returns-then-after-t : goal.returns-then-after-t
returns-then-after-t c =
    way_found _ _ _ _ _ c.loop-passed.invariant (omega arith) c.if-met-ge-THREADS.false _ refl c.if-after-t.true

pub loop-passed-preserved : goal.loop-passed-preserved
loop-passed-preserved c =
    way_on _ _ _ _ _ c.loop-passed.invariant (omega arith) c.if-met-ge-THREADS.false _ refl c.if-after-t.false

pub returns : goal.returns
returns c = way_spent _ _ _ _ _ c.loop-passed.invariant c.loop-passed-test.false
