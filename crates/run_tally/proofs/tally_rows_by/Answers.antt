-- `tally_rows_by` meets its contract. The invariant: going on from row i gives what the whole gives. Assumes nothing.
use Rattle.std.proofs.Common.{refl, ◌∙◌}
use Rattle.run_rows.proofs.Many.{rows_end}
use Rattle.run_tally.specs.Sums.{add_weight}
use Rattle.run_tally.proofs.Walking.{row_tallied}
use Rattle.run_tally.proofs.tally_rows_by.Goals as goal

pub loop-i-init : goal.loop-i-init
loop-i-init g c = λ w. (w, refl)

pub loop-i-preserved : goal.loop-i-preserved
loop-i-preserved g c =
    let l = c.loop-i in
    let rows = c.args.rows.now in
    λ w.
    let so_far = l.invariant w in
    let one = c.with_row-reached.ensures so_far.0 in
    (one.0, row_tallied l.i rows _ (g.T.Tallying.reached l.reached) _ c.loop-i-test.true c.row_at.ensures one.1 ∙ so_far.1)

pub returns : goal.returns
returns g c =
    let l = c.loop-i in
    λ w. let all = l.invariant w in (all.0, rows_end add_weight l.i c.args.rows.now _ (g.T.Tallying.reached l.reached) c.loop-i-test.false all.1)
