-- `thread_at` meets its contract: the bytes read are the row, the link, the queue or the tie that stands there. Assumes nothing.
use mathlib.Core.Path.{sym, ◌∙◌}
use Rattle.place_tables.proofs.Storing.{thread_read}
use Rattle.place_tables.proofs.thread_at.Goals as goal

pub returns : goal.returns
returns c =
    (λ i. record { base = c.load.ensures i; priority = c.load-2.ensures i; state = c.load-3.ensures i; object = c.load-4.ensures i }) ∙ sym (thread_read _ _)
