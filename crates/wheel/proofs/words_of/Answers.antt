-- `words_of` meets its contract: a wheel is its words. Assumes nothing.
use Rattle.wheel.specs.Promise.Opened.{words_are}
use Rattle.wheel.proofs.words_of.Goals as goal

pub returns : goal.returns
returns c = words_are _
