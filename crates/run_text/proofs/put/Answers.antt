-- `put` meets its contract. Assumes nothing.
use Rattle.run_text.specs.Texts.{put_model}
use Rattle.run_text.proofs.put.Goals as goal

pub returns : goal.returns
unfolding put_model
returns c = rw c.place_in_front-from.ensures
