-- `wheel::Wheel::left` meets its contract: its words are lent to `left`. Assumes nothing.
use Rattle.wheel.specs.Promise.Opened.{words_are}
use Rattle.wheel.proofs.Wheel.left.Goals as goal

pub returns : goal.returns
returns c = record {
  always = rw (words_are c.args.self.words) at c.left.ensures.always;
  hung = rw (words_are c.args.self.words) at c.left.ensures.hung;
}
