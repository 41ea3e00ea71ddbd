-- `units::ticks_of` meets its contract: each return by the test that led there. Assumes nothing.
use Rattle.units.proofs.Lengths.{length_out}
use Rattle.units.proofs.ticks_of.Goals as goal

pub returns-then-n-gt-LONGEST : goal.returns-then-n-gt-LONGEST
returns-then-n-gt-LONGEST c = length_out _ _ c.rounded_up-n.ensures c.if-n-gt-LONGEST.true
