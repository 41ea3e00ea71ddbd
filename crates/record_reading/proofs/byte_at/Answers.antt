-- `byte_at` meets its contract: as `load` does. Assumes nothing.
use Rattle.record_reading.proofs.byte_at.Goals as goal

pub returns : goal.returns
returns c = c.load.ensures
