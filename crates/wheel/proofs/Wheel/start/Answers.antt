-- `wheel::Wheel::start` meets its contract: its words are lent to `start`. Assumes nothing.
use Rattle.wheel.specs.Promise.Opened.{words_are}
use Rattle.wheel.proofs.Wheel.start.Goals as goal

pub returns : goal.returns
returns c = record {
  always = rw (words_are c.args.self.words, words_are _) at c.start.ensures.always;
  hung = rw (words_are c.args.self.words, words_are _) at c.start.ensures.hung;
}
