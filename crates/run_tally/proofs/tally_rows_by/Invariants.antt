-- `tally_rows_by` meets its contract. The invariant: going on from row i gives what the whole gives. Assumes nothing.
use Rattle.std.proofs.Common.{◌≡◌}
use Rattle.run_rows.specs.Many.{after_rows}
use Rattle.run_rows.proofs.Many.{rows_from}
use Rattle.run_tally.specs.Sums.{add_weight}
use Rattle.run_tally.proofs.tally_rows_by.Given as goal

abbrev pub invariant-loop-i : goal.invariant-loop-i
invariant-loop-i g l =
    let at = g.T.Tallying.reached in
    g.T.Tallying.Fit l.initial.reached → g.T.Tallying.Fit l.reached × (after_rows add_weight (at l.reached) (rows_from l.i l.rows) ≡ after_rows add_weight (at l.initial.reached) (rows_from 0 l.rows))
