-- `tally_repeated_by` meets its contract. The invariant: what is left gives what the whole gives. Assumes nothing.
use Rattle.std.proofs.Common.{◌+◌, ◌≡◌, ◌-◌, sym, ap, ◌∙◌, arith}
use Rattle.run_tally.specs.Sums.{repeated}
use Rattle.run_tally.proofs.Walking.{repeat_on, repeat_end}
use Rattle.run_tally.proofs.tally_repeated_by.Goals as goal

pub loop-init : goal.loop-init
loop-init g c =
    let whole : c.args.repeats - 0 ≡ c.args.repeats = omega arith in
    λ w. (w, ap (λ n. repeated n (g.T.Tallying.reached c.args.tally) c.args.rows.now) whole)

pub loop-preserved : goal.loop-preserved
loop-preserved g c =
    let l = c.loop in
    let rows = c.args.rows.now in
    let less = c.loop-test.true in
    λ w.
    let so_far = l.invariant w in
    let all = c.tally_rows_by-reached.ensures so_far.0 in
    (all.0, ap (λ t. repeated (c.args.repeats - (l.counter + 1)) t rows) all.1 ∙ sym (repeat_on c.args.repeats l.counter (g.T.Tallying.reached l.reached) rows less) ∙ so_far.1)

pub returns : goal.returns
returns g c =
    let l = c.loop in
    let over = c.loop-test.false in
    λ w. let all = l.invariant w in (all.0, sym (repeat_end c.args.repeats l.counter (g.T.Tallying.reached l.reached) _ over) ∙ all.1)
