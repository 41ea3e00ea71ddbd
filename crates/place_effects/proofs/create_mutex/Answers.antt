-- `create_mutex` meets its contract. Assumes nothing.
use Rattle.value_effects.specs.Effects.{create_mutex_model}
use Rattle.place_effects.proofs.create_mutex.Goals as goal

pub returns : goal.returns
unfolding create_mutex_model
returns c = rw c.put_mutex.ensures
