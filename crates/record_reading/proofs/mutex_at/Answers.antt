-- `mutex_at` meets its contract: three bytes. Assumes nothing.
use Rattle.record_reading.proofs.mutex_at.Goals as goal

pub returns : goal.returns
returns c =
    λ i. record { ceiling = c.byte_at-ceiling.ensures i; owner = c.byte_at-owner.ensures i; count = c.byte_at-count.ensures i }
