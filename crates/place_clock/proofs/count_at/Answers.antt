-- `count_at` meets its contract: the words read are the part of the clock that stands there. Assumes nothing.
use Rattle.place_clock.specs.Clock.{clock_in}
use Rattle.place_clock.proofs.count_at.Goals as goal

pub returns : goal.returns
unfolding clock_in
returns c =
    c.load.ensures
