-- `tally_rows` meets its contract. The invariant: going on from row i gives what the whole gives. Assumes nothing.
use Rattle.std.proofs.Common.{refl, ◌∙◌}
use Rattle.run_rows.proofs.Many.{row_done, rows_end}
use Rattle.run_tally.specs.Sums.{add_weight, tally_on}
use Rattle.run_tally.proofs.Walking.{row_added}
use Rattle.run_tally.proofs.tally_rows.Goals as goal

pub loop-i-init : goal.loop-i-init
loop-i-init c = refl

pub loop-i-preserved : goal.loop-i-preserved
loop-i-preserved c =
    let l = c.loop-i in
    let rows = c.args.rows.now in
    let x = tally_on l.cells l.clock l.wheel l.counts l.sum in
    let done = row_done x.engine _ _ c.step_row-done.ensures in
    row_added l.i rows _ x _ _ c.loop-i-test.true c.row_at-row.ensures done c.add-sum.ensures ∙ l.invariant

pub returns : goal.returns
returns c =
    let l = c.loop-i in
    rows_end add_weight l.i c.args.rows.now _ (tally_on l.cells l.clock l.wheel l.counts l.sum) c.loop-i-test.false l.invariant
