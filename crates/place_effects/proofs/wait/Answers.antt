-- `wait` meets its contract. Assumes nothing.
use Rattle.value_effects.specs.Effects.{wait_model}
use Rattle.place_effects.proofs.wait.Goals as goal

pub returns : goal.returns
unfolding wait_model
returns c =
    rw (c.wait_on.ensures, c.put_tie.ensures, c.release.ensures, c.running_at-caller.ensures)
