-- `timer_at` meets its contract: two bytes and two words. Assumes nothing.
use Rattle.units.specs.Units.{in_ticks}
use Rattle.record_reading.proofs.timer_at.Goals as goal

pub returns : goal.returns
returns c =
    λ i. record { state = c.byte_at-state.ensures i; condition = c.byte_at-condition.ensures i; length = in_ticks (c.word_at-length.ensures i); left = in_ticks (c.word_at-left.ensures i) }
