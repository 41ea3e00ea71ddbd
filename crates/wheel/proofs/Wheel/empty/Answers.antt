-- `wheel::Wheel::empty` meets its contract: its words are those of `empty_words`. Assumes nothing.
use mathlib.Core.Path.{sym, ◌∙◌}
use Rattle.wheel.specs.Promise.Opened.{words_are}
use Rattle.wheel.proofs.Wheel.empty.Goals as goal

pub returns : goal.returns
returns c = sym (words_are _) ∙ c.empty_words-words.ensures
