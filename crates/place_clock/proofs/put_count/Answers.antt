-- `put_count` meets its contract: the words stored are the one change that the definition makes. Assumes nothing.
use borrow.Author.Rules.{rules}
use Rattle.place_clock.proofs.Words.{count_put}
use mathlib.Core.Path.{◌≡◌}
use lib.ListN.{length}
use Rattle.place_clock.proofs.put_count.Goals as goal

pub returns : goal.returns
returns c =
    let long : length c.args.clock.now ≡ 33 = search rules in
    rw c.store.ensures (count_put _ long _)
