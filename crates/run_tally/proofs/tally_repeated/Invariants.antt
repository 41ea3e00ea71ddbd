-- `tally_repeated` meets its contract. The invariant: what is left gives what the whole gives. Assumes nothing.
use Rattle.std.proofs.Common.{◌≡◌, ◌-◌}
use Rattle.run_tally.specs.Sums.{tally_on, repeated}
use Rattle.run_tally.proofs.tally_repeated.Given as goal

abbrev pub invariant-loop : goal.invariant-loop
invariant-loop l =
    repeated (l.repeats - l.counter) (tally_on l.cells l.clock l.wheel l.reached.counts l.reached.sum) l.rows ≡ repeated l.repeats (tally_on l.initial.cells l.initial.clock l.initial.wheel l.initial.reached.counts l.initial.reached.sum) l.rows
