-- `wheel_of` meets its contract: a wheel is its words. Assumes nothing.
use mathlib.Core.Path.{sym}
use Rattle.wheel.specs.Promise.Opened.{words_are}
use Rattle.wheel.proofs.wheel_of.Goals as goal

pub returns : goal.returns
returns c = sym (words_are _)
