-- `tally_row_by_value` meets its contract: each call by its own. Assumes nothing.
use Rattle.run_tally.proofs.tally_row_by_value.Goals as goal

pub returns : goal.returns
returns c = rw (c.add-sum.ensures, c.step_row-stepped.ensures.always)
