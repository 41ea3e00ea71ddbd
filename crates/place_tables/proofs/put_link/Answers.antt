-- `put_link` meets its contract: the bytes stored are the one change that the definition makes. Assumes nothing.
use borrow.Author.Rules.{rules}
use Rattle.place_tables.proofs.Stores.{link_put}
use Rattle.place_tables.proofs.put_link.Goals as goal

pub returns : goal.returns
returns c = rw c.store.ensures (link_put _ (search rules) _ _)
