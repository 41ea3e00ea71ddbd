-- `queue_at` meets its contract: the bytes read are the row, the link, the queue or the tie that stands there. Assumes nothing.
use mathlib.Core.Path.{sym, ◌∙◌}
use native.Mathlib.Omega.{arith}
use Rattle.place_tables.proofs.Storing.{queue_read, queue_past}
use Rattle.place_tables.proofs.queue_at.Goals as goal

pub returns-then-p-ge-PRIORITIES : goal.returns-then-p-ge-PRIORITIES
returns-then-p-ge-PRIORITIES c = c.empty.ensures ∙ sym (queue_past _ _ _ c.if-p-ge-PRIORITIES.true)

pub returns : goal.returns
returns c =
    (λ i. record { first = c.load.ensures i; last = c.load-2.ensures i }) ∙ sym (queue_read _ _ _ (omega arith) c.if-p-ge-PRIORITIES.false)
