-- `tally_repeated` meets its contract. The invariant: what is left gives what the whole gives. Assumes nothing.
use Rattle.std.proofs.Common.{◌+◌, ◌-◌, sym, ap, ◌∙◌, arith}
use Rattle.run_tally.specs.Sums.{tally_on, repeated}
use Rattle.run_tally.proofs.Walking.{repeat_on, repeat_end}
use Rattle.run_tally.proofs.tally_repeated.Goals as goal

pub loop-preserved : goal.loop-preserved
loop-preserved c =
    let l = c.loop in
    let rows = c.args.rows.now in
    ap (λ t. repeated (c.args.repeats - (l.counter + 1)) t rows) c.tally_rows-reached.ensures ∙ sym (repeat_on c.args.repeats l.counter (tally_on l.cells l.clock l.wheel l.reached.counts l.reached.sum) rows (omega arith)) ∙ l.invariant

pub returns : goal.returns
returns c =
    let l = c.loop in
    sym (repeat_end c.args.repeats l.counter (tally_on l.cells l.clock l.wheel l.reached.counts l.reached.sum) _ (omega arith)) ∙ l.invariant
