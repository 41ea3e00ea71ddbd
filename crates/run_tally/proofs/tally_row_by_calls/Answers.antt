-- `tally_row_by_calls` meets its contract, by `called_row`. Assumes nothing.
use Rattle.run_tally.proofs.Calling.{called_row}
use Rattle.run_tally.proofs.tally_row_by_calls.Goals as goal

pub returns : goal.returns
returns c = called_row _ _ _ _ c.step_row-stepped.ensures c.add-sum.ensures
