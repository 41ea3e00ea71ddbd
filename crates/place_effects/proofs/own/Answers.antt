-- `own` meets its contract. Assumes nothing.
use Rattle.value_effects.specs.Effects.{own_model}
use Rattle.place_effects.proofs.own.Goals as goal

pub returns : goal.returns
unfolding own_model
returns c =
    rw (c.settle-2.ensures, c.settle.ensures, c.put_mutex.ensures, c.mutex_at-row.ensures)
