-- `Threads::leave` meets its contract. Assumes nothing.
use Rattle.value_tables.specs.Tables.{leave_model_in}
use Rattle.value_tables.proofs.Threads.leave.Goals as goal

pub returns : goal.returns
unfolding leave_model_in
returns c = rw c.depart-departed.ensures
