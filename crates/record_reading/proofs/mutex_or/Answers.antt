-- `mutex_or` meets its contract: the row is within the table or not. Assumes nothing.
use borrow.Author.Tests.{lt-ltb, le-ltb}
use Rattle.record_reading.proofs.mutex_or.Goals as goal

pub returns-then-m-n : goal.returns-then-m-n
returns-then-m-n c = rw (lt-ltb _ _ c.if-m-n.true) c.mutex_at.ensures

pub returns : goal.returns
returns c = rw (le-ltb _ _ c.if-m-n.false)
