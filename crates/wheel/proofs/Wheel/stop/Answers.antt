-- `wheel::Wheel::stop` meets its contract: its words are lent to `stop`. Assumes nothing.
use Rattle.wheel.specs.Promise.Opened.{words_are}
use Rattle.wheel.proofs.Wheel.stop.Goals as goal

pub returns : goal.returns
returns c = record {
  always = rw (words_are c.args.self.words, words_are _) at c.stop.ensures.always;
  hung = rw (words_are c.args.self.words, words_are _) at c.stop.ensures.hung;
}
