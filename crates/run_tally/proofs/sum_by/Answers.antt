-- `sum_by` meets its contract, by `summed`. Assumes nothing.
use Rattle.std.proofs.Common.{refl, ap, ◌∙◌}
use Rattle.run_tally.specs.Sums.{over_rows, repeated}
use Rattle.run_tally.proofs.Walking.{summed}
use Rattle.run_tally.proofs.sum_by.Goals as goal

pub returns : goal.returns
returns g c = λ w booted.
    let ready = c.tally_rows_by-ready.ensures w in
    let begun = c.anew-begun.ensures ready.0 in
    let ended = c.tally_repeated_by-ended.ensures begun.0 in
    c.total.ensures ∙ summed _ _ _ _ _ _ _ refl (ready.1 ∙ ap (λ z. over_rows z c.args.setup.now) booted) (ended.1 ∙ ap (λ z. repeated c.args.repeats z c.args.rows.now) begun.1)
