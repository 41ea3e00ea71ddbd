-- `put_thread` meets its contract: the bytes stored are the one change that the definition makes. Assumes nothing.
use borrow.Author.Rules.{rules}
use Rattle.place_tables.proofs.Stores.{thread_put}
use Rattle.place_tables.proofs.put_thread.Goals as goal

pub returns : goal.returns
returns c =
    rw (c.store-4.ensures, c.store-3.ensures, c.store-2.ensures, c.store.ensures) (thread_put _ (search rules) _ _ _ _ _)
