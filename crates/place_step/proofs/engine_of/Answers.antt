-- `engine_of` meets its contract: field by field. Assumes nothing.
use Rattle.place_step.proofs.engine_of.Goals as goal

pub returns : goal.returns
returns c =
    rw (c.wheel_of.ensures, c.count_at.ensures, c.timers_in.ensures, c.unpacked.ensures)
