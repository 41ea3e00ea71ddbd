-- `ahead` goes the way that its definition says. The invariant: from the thread met, along the links that are left, the way gives what the whole way gives.
-- Assumes nothing.
use mathlib.Core.Path.{◌∙◌}
use native.Mathlib.Omega.{arith}
use Rattle.queue.proofs.Searches.{way_ends, way_spent, way_found, way_on}
use Rattle.place_tables.specs.Cells.{scheduler_in}
use Rattle.place_queues.proofs.Joins.{link_read}
use Rattle.place_queues.proofs.ahead.Goals as goal

pub returns-then-met-ge-THREADS : goal.returns-then-met-ge-THREADS
returns-then-met-ge-THREADS c = way_ends _ _ _ _ _ c.loop.invariant c.if-met-ge-THREADS.true

pub returns-then-after-t : goal.returns-then-after-t
returns-then-after-t c =
    way_found _ _ _ _ _ c.loop.invariant (omega arith) c.if-met-ge-THREADS.false c.link_at-after.result
    (c.link_at-after.ensures ∙ link_read (scheduler_in c.args.cells.now) _ c.if-met-ge-THREADS.false) c.if-after-t.true

pub loop-preserved : goal.loop-preserved
loop-preserved c =
    way_on _ _ _ _ _ c.loop.invariant (omega arith) c.if-met-ge-THREADS.false c.link_at-after.result
    (c.link_at-after.ensures ∙ link_read (scheduler_in c.args.cells.now) _ c.if-met-ge-THREADS.false) c.if-after-t.false

pub returns : goal.returns
returns c = way_spent _ _ _ _ _ c.loop.invariant c.loop-test.false
