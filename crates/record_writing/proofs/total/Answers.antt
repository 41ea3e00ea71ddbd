-- `total` meets its contract. Assumes nothing.
use Rattle.record_writing.proofs.Whole.{total_is}
use Rattle.record_writing.proofs.total.Goals as goal

pub returns : goal.returns
returns c =
    total_is c.args.page
