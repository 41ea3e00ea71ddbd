-- `read_ties` meets its contract: row by row. Assumes nothing.
use Rattle.std.proofs.Common.{rules}
use Rattle.laws.proofs.Making.{made}
use Rattle.record_reading.proofs.read_ties.Goals as goal

pub returns : goal.returns
returns c = made 16 _ (λ i row f l call. search rules) c.from_fn.ensures.items 0
