-- `wheel::Wheel::tick` meets its contract: its words are lent to `tick`. Assumes nothing.
use Rattle.wheel.specs.Promise.Opened.{words_are}
use Rattle.wheel.proofs.Wheel.tick.Goals as goal

pub returns : goal.returns
returns c = record {
  always = rw (words_are c.args.self.words, words_are _) at c.tick-turned.ensures.always;
  hung = rw (words_are c.args.self.words, words_are _) at c.tick-turned.ensures.hung;
  order = rw (words_are c.args.self.words) at c.tick-turned.ensures.order;
}
