-- `put_tie` meets its contract: the bytes stored are the one change that the definition makes. Assumes nothing.
use borrow.Author.Rules.{rules}
use Rattle.place_tables.proofs.Stores.{tie_put}
use Rattle.place_tables.proofs.put_tie.Goals as goal

pub returns : goal.returns
returns c = rw c.store.ensures (tie_put _ (search rules) _ _)
