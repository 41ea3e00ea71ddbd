-- `thread_or` meets its contract: the row is within the table or not. Assumes nothing.
use borrow.Author.Tests.{lt-ltb, le-ltb}
use Rattle.record_reading.proofs.thread_or.Goals as goal

pub returns-then-t-n : goal.returns-then-t-n
returns-then-t-n c = rw (lt-ltb _ _ c.if-t-n.true) c.thread_at.ensures

pub returns : goal.returns
returns c = rw (le-ltb _ _ c.if-t-n.false)
