-- `tie_or` meets its contract: the row is within the table or not. Assumes nothing.
use borrow.Author.Tests.{lt-ltb, le-ltb}
use Rattle.record_reading.proofs.tie_or.Goals as goal

pub returns-then-c-n : goal.returns-then-c-n
returns-then-c-n c = rw (lt-ltb _ _ c.if-c-n.true) c.byte_at.ensures

pub returns : goal.returns
returns c = rw (le-ltb _ _ c.if-c-n.false)
