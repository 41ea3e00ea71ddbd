-- `put_running` meets its contract: the bytes stored are the one change that the definition makes. Assumes nothing.
use borrow.Author.Rules.{rules}
use Rattle.place_tables.proofs.Stores.{running_put}
use Rattle.place_tables.proofs.put_running.Goals as goal

pub returns : goal.returns
returns c = rw c.store.ensures (running_put _ (search rules) _)
