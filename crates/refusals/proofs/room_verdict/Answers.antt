-- `room_verdict` meets its contract, each return by the tests that led there. Assumes nothing.
use borrow.Author.Tests.{le-leb, lt-leb}
use Rattle.refusals.specs.Verdicts.{room_verdict}
use Rattle.refusals.proofs.room_verdict.Goals as goal

pub returns-then-limit-count : goal.returns-then-limit-count
unfolding room_verdict
returns-then-limit-count c = rw (le-leb _ _ c.if-limit-count.true)

pub returns : goal.returns
unfolding room_verdict
returns c = rw (lt-leb _ _ c.if-limit-count.false)
