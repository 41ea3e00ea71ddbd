-- `clock_of` meets its contract: each part is put. Assumes nothing.
use mathlib.Core.Path.{refl}
use Rattle.place_clock.proofs.clock_of.Goals as goal

pub returns : goal.returns
returns c = rw (c.put_count.ensures, c.put_timers.ensures) refl
