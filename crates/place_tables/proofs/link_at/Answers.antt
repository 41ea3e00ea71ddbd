-- `link_at` meets its contract: the bytes read are the row, the link, the queue or the tie that stands there. Assumes nothing.
use mathlib.Core.Path.{sym, ◌∙◌}
use Rattle.place_tables.proofs.Storing.{link_read}
use Rattle.place_tables.proofs.link_at.Goals as goal

pub returns : goal.returns
returns c = c.load.ensures ∙ sym (link_read _ _)
