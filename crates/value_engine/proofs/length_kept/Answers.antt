-- `length_kept` meets its contract: for each kind. Assumes nothing.
use Rattle.value_engine.proofs.length_kept.Goals as goal

pub returns-in-OneShot : goal.returns-in-OneShot
returns-in-OneShot c = rw c.in-OneShot.is

pub returns-in-Periodic : goal.returns-in-Periodic
returns-in-Periodic c = rw c.in-Periodic.is c.repeat_of-repeat.ensures
