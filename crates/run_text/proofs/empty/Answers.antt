-- `empty` meets its contract: it is the text of no bytes. Assumes nothing.
use mathlib.Core.Path.{refl}
use Rattle.run_text.specs.Texts.{text_of}
use Rattle.run_text.proofs.empty.Goals as goal

pub returns : goal.returns
unfolding text_of
returns c = refl
