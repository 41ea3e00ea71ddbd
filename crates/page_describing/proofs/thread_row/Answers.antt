-- `thread_row` meets its contract: the row, and each call by its own. Assumes nothing.
use Rattle.value_effects.specs.Effects.{thread_row_model}
use Rattle.page_describing.specs.Describing.{thread_model}
use Rattle.page_describing.proofs.thread_row.Goals as goal

pub returns : goal.returns
unfolding thread_model thread_row_model
returns c = rw (c.place_of-place.ensures, c.thread_at-row.ensures)
