-- `first_of` meets its contract, by whether the first verdict is done. Assumes nothing.
use Rattle.refusals.specs.Verdicts.{first_verdict}
use Rattle.refusals.proofs.first_of.Goals as goal

pub returns-then-is_done : goal.returns-then-is_done
unfolding first_verdict
returns-then-is_done c = rw (← c.is_done.ensures, c.if-is_done.true)

pub returns : goal.returns
unfolding first_verdict
returns c = rw (← c.is_done.ensures, c.if-is_done.false)
