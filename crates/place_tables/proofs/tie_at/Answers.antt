-- `tie_at` meets its contract: the bytes read are the row, the link, the queue or the tie that stands there. Assumes nothing.
use mathlib.Core.Path.{sym, ◌∙◌}
use Rattle.place_tables.proofs.Storing.{tie_read}
use Rattle.place_tables.proofs.tie_at.Goals as goal

pub returns : goal.returns
returns c = c.load.ensures ∙ sym (tie_read _ _)
