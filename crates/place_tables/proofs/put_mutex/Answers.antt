-- `put_mutex` meets its contract: the bytes stored are the one change that the definition makes. Assumes nothing.
use borrow.Author.Rules.{rules}
use Rattle.place_tables.proofs.Stores.{mutex_put}
use Rattle.place_tables.proofs.put_mutex.Goals as goal

pub returns : goal.returns
returns c =
    rw (c.store-3.ensures, c.store-2.ensures, c.store.ensures) (mutex_put _ (search rules) _ _ _ _)
