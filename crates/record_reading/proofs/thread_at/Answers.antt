-- `thread_at` meets its contract: four bytes. Assumes nothing.
use Rattle.record_reading.proofs.thread_at.Goals as goal

pub returns : goal.returns
returns c =
    λ i. record { base = c.byte_at-base.ensures i; state = c.byte_at-state.ensures i; object = c.byte_at-object.ensures i; place = c.byte_at-place.ensures i }
