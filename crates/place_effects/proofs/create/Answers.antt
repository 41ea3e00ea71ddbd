-- `create` meets its contract. Assumes nothing.
use Rattle.value_effects.specs.Effects.{create_model}
use Rattle.place_effects.proofs.create.Goals as goal

pub returns : goal.returns
unfolding create_model
returns c = rw (c.arrive.ensures, c.put_thread.ensures)
