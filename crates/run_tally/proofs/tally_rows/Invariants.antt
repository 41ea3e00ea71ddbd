-- `tally_rows` meets its contract. The invariant: going on from row i gives what the whole gives. Assumes nothing.
use Rattle.std.proofs.Common.{◌≡◌}
use Rattle.run_rows.specs.Many.{after_rows}
use Rattle.run_rows.proofs.Many.{rows_from}
use Rattle.run_tally.specs.Sums.{add_weight, tally_on}
use Rattle.run_tally.proofs.tally_rows.Given as goal

abbrev pub invariant-loop-i : goal.invariant-loop-i
invariant-loop-i l =
    after_rows add_weight (tally_on l.cells l.clock l.wheel l.counts l.sum) (rows_from l.i l.rows) ≡ after_rows add_weight (tally_on l.initial.cells l.initial.clock l.initial.wheel l.initial.counts l.initial.sum) (rows_from 0 l.rows)
