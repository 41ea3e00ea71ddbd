-- `depart` meets its contract, by `depart_none`, `depart_first` and `depart_last`. Assumes nothing.
use Rattle.place_tables.specs.Cells.{scheduler_in}
use Rattle.place_tables.specs.Changes.{link_of}
use mathlib.Core.Path.{subst, ap, ◌∙◌}
use Prim.Native.Nat.{◌<◌, ◌≤◌}
use Rattle.queue.specs.declared.Queue.{Queue}
use Rattle.place_queues.proofs.Joins.{depart_none, depart_first, depart_last}
use Rattle.place_queues.proofs.depart.Goals as goal

pub returns-then-queue-ge-THREADS : goal.returns-then-queue-ge-THREADS
returns-then-queue-ge-THREADS c = depart_none _ _ _ (subst (λ (q : Queue). 32 ≤ q.first) c.queue_at-queue.ensures c.if-queue-ge-THREADS.true)

pub returns-then-next-lt-THREADS : goal.returns-then-next-lt-THREADS
returns-then-next-lt-THREADS c =
    rw (c.put_queue.ensures, c.put_link.ensures, c.link_at-next.ensures, c.queue_at-queue.ensures) (depart_first _ _ _ (subst (λ (q : Queue). q.first < 32) c.queue_at-queue.ensures c.if-queue-ge-THREADS.false) (subst (λ n. n < 32) (c.link_at-next.ensures ∙ ap (λ (q : Queue). link_of (scheduler_in c.args.cells.now) q.first) c.queue_at-queue.ensures) c.if-next-lt-THREADS.true))

pub returns : goal.returns
returns c =
    rw (c.put_queue-2.ensures, c.empty.ensures, c.put_link.ensures, c.queue_at-queue.ensures) (depart_last _ _ _ (subst (λ (q : Queue). q.first < 32) c.queue_at-queue.ensures c.if-queue-ge-THREADS.false) (subst (λ n. 32 ≤ n) (c.link_at-next.ensures ∙ ap (λ (q : Queue). link_of (scheduler_in c.args.cells.now) q.first) c.queue_at-queue.ensures) c.if-next-lt-THREADS.false))
