-- `timer_or` meets its contract: the row is within the table or not. Assumes nothing.
use borrow.Author.Tests.{lt-ltb, le-ltb}
use Rattle.record_reading.proofs.timer_or.Goals as goal

pub returns-then-i-n : goal.returns-then-i-n
returns-then-i-n c = rw (lt-ltb _ _ c.if-i-n.true) c.timer_at.ensures

pub returns : goal.returns
returns c = rw (le-ltb _ _ c.if-i-n.false)
