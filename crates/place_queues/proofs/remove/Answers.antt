-- `remove` meets its contract, by `remove_none`, `remove_first`, `remove_nowhere`, `remove_last` and `remove_between`. Assumes nothing.
use Rattle.place_queues.proofs.Joins.{remove_none, remove_first, remove_nowhere, remove_last, remove_between}
use Rattle.place_queues.proofs.remove.Goals as goal

pub returns-then-t-ge-THREADS : goal.returns-then-t-ge-THREADS
returns-then-t-ge-THREADS c = remove_none _ _ _ _ c.if-t-ge-THREADS.true

pub returns-then-queue-t : goal.returns-then-queue-t
returns-then-queue-t c =
    rw c.depart.ensures (remove_first _ _ _ _ c.queue_at-queue.result c.queue_at-queue.ensures c.if-t-ge-THREADS.false c.if-queue-t.true)

pub returns-then-ahead-ge-THREADS : goal.returns-then-ahead-ge-THREADS
returns-then-ahead-ge-THREADS c =
    remove_nowhere _ _ _ _ c.queue_at-queue.result c.queue_at-queue.ensures c.if-t-ge-THREADS.false c.ahead-ahead.result c.if-queue-t.false c.ahead-ahead.ensures c.if-ahead-ge-THREADS.true

pub returns-then-queue-t-2 : goal.returns-then-queue-t-2
returns-then-queue-t-2 c =
    rw (c.put_queue.ensures, c.put_link-2.ensures, c.put_link.ensures, c.link_at-after.ensures)
    (remove_last _ _ _ _ c.queue_at-queue.result c.queue_at-queue.ensures c.if-t-ge-THREADS.false c.ahead-ahead.result c.if-queue-t.false c.ahead-ahead.ensures c.if-ahead-ge-THREADS.false c.if-queue-t-2.true)

pub returns-else-queue-t-2 : goal.returns-else-queue-t-2
returns-else-queue-t-2 c =
    rw (c.put_link-2.ensures, c.put_link.ensures, c.link_at-after.ensures)
    (remove_between _ _ _ _ c.queue_at-queue.result c.queue_at-queue.ensures c.if-t-ge-THREADS.false c.ahead-ahead.result c.if-queue-t.false c.ahead-ahead.ensures c.if-ahead-ge-THREADS.false c.if-queue-t-2.false)
