-- `units::repeat_of` meets its contract: below 2 the repeat is 1, else it is one less. Assumes nothing.
use mathlib.Core.Path.{ap}
use Rattle.units.specs.Units.{in_ticks}
use Rattle.units.proofs.Lengths.{repeat_short, repeat_long}
use Rattle.units.proofs.repeat_of.Goals as goal

pub returns-then-n-lt2 : goal.returns-then-n-lt2
returns-then-n-lt2 c = ap in_ticks (repeat_short _ c.if-n-lt2.true)

pub returns : goal.returns
returns c = ap in_ticks (repeat_long _ c.if-n-lt2.false)
