-- `timer_at` meets its contract: the word read is the row that stands there. Assumes nothing.
use mathlib.Core.Path.{sym, ap, ◌∙◌}
use Rattle.place_clock.specs.Clock.{row_in}
use Rattle.place_clock.proofs.Words.{timer_read}
use Rattle.place_clock.proofs.timer_at.Goals as goal

pub returns : goal.returns
returns c = ap row_in c.load-word.ensures ∙ sym (timer_read _ _)
