-- `tally_repeated_by` meets its contract. The invariant: what is left gives what the whole gives. Assumes nothing.
use Rattle.std.proofs.Common.{◌≡◌, ◌-◌}
use Rattle.run_tally.specs.Sums.{repeated}
use Rattle.run_tally.proofs.tally_repeated_by.Given as goal

abbrev pub invariant-loop : goal.invariant-loop
invariant-loop g l =
    let at = g.T.Tallying.reached in
    g.T.Tallying.Fit l.initial.reached → g.T.Tallying.Fit l.reached × (repeated (l.repeats - l.counter) (at l.reached) l.rows ≡ repeated l.repeats (at l.initial.reached) l.rows)
