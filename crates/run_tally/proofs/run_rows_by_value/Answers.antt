-- `run_rows_by_value` meets its contract: nothing is asked of an engine by value. Assumes nothing.
use Rattle.std.proofs.Common.{ap}
use Rattle.run_tally.proofs.run_rows_by_value.Goals as goal

pub returns : goal.returns
returns c = c.sum_by.ensures tt (ap (λ x. record { engine = x; made = 0 }) c.boot-engine.ensures)
