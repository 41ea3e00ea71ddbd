-- `priorities_of` meets its contract: entry by entry. Assumes nothing.
use Rattle.std.proofs.Common.{rules}
use Rattle.laws.proofs.Making.{made}
use Rattle.sound_standing.specs.Standing.{priorities_in}
use Rattle.sound_standing.proofs.priorities_of.Goals as goal

pub returns : goal.returns
unfolding priorities_in
returns c = made 32 _ (λ t priority f l call. search rules) c.from_fn.ensures.items 0
