-- `recount` meets its contract. Assumes nothing.
use Rattle.value_effects.specs.Effects.{recount_model}
use Rattle.place_effects.proofs.recount.Goals as goal

pub returns : goal.returns
unfolding recount_model
returns c = rw (c.put_mutex.ensures, c.mutex_at-row.ensures)
