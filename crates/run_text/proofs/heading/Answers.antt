-- `heading` meets its contract: its bytes are the heading's. Assumes nothing.
use mathlib.Core.Path.{refl}
use Rattle.run_text.specs.Texts.{text_of}
use Rattle.run_text.proofs.heading.Goals as goal

pub returns : goal.returns
unfolding text_of
returns c = refl
