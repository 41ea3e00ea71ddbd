-- `mutex_at` meets its contract: the bytes read are the row, the link, the queue or the tie that stands there. Assumes nothing.
use mathlib.Core.Path.{sym, ◌∙◌}
use Rattle.place_tables.proofs.Storing.{mutex_read}
use Rattle.place_tables.proofs.mutex_at.Goals as goal

pub returns : goal.returns
returns c =
    (λ i. record { ceiling = c.load.ensures i; owner = c.load-2.ensures i; count = c.load-3.ensures i }) ∙ sym (mutex_read _ _)
