-- `put_queue` meets its contract: the bytes stored are the one change that the definition makes. Assumes nothing.
use borrow.Author.Rules.{rules}
use Rattle.place_tables.proofs.Stores.{queue_put}
use Rattle.place_tables.proofs.Storing.{queue_none}
use mathlib.Core.Path.{sym}
use native.Mathlib.Omega.{arith}
use Rattle.place_tables.proofs.put_queue.Goals as goal

pub returns-then-p-ge-PRIORITIES : goal.returns-then-p-ge-PRIORITIES
returns-then-p-ge-PRIORITIES c = sym (queue_none _ _ _ _ c.if-p-ge-PRIORITIES.true)

pub returns : goal.returns
returns c =
    rw (c.store-2.ensures, c.store.ensures) (queue_put _ (search rules) _ _ _ _ (omega arith) c.if-p-ge-PRIORITIES.false)
