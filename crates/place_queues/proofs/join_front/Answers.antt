-- `join_front` meets its contract, by `front_none`, `front_before` and `front_alone`. Assumes nothing.
use mathlib.Core.Path.{subst}
use Prim.Native.Nat.{◌<◌, ◌≤◌}
use Rattle.queue.specs.declared.Queue.{Queue}
use Rattle.place_queues.proofs.Joins.{front_none, front_before, front_alone}
use Rattle.place_queues.proofs.join_front.Goals as goal

pub returns-then-t-ge-THREADS : goal.returns-then-t-ge-THREADS
returns-then-t-ge-THREADS c = front_none _ _ _ _ c.if-t-ge-THREADS.true

pub returns-then-queue-lt-THREADS : goal.returns-then-queue-lt-THREADS
returns-then-queue-lt-THREADS c =
    rw (c.put_queue.ensures, c.put_link.ensures, c.queue_at-queue.ensures) (front_before _ _ _ _ c.if-t-ge-THREADS.false (subst (λ (q : Queue). q.first < 32) c.queue_at-queue.ensures c.if-queue-lt-THREADS.true))

pub returns : goal.returns
returns c =
    rw (c.put_queue-2.ensures, c.put_link.ensures, c.queue_at-queue.ensures) (front_alone _ _ _ _ c.if-t-ge-THREADS.false (subst (λ (q : Queue). 32 ≤ q.first) c.queue_at-queue.ensures c.if-queue-lt-THREADS.false))
