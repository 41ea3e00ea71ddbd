-- `put_timers` replaces the table. The invariant: the rows below id are the new ones. Assumes nothing.
use mathlib.Core.Path.{◌≡◌}
use Rattle.place_clock.specs.Clock.{clock_in, with_timers}
use Rattle.laws.proofs.Copying.{copied}
use Rattle.place_clock.proofs.put_timers.Given as goal

abbrev pub invariant-loop-id : goal.invariant-loop-id
invariant-loop-id l = clock_in l.clock ≡ copied (with_timers (clock_in l.initial.clock)) (clock_in l.initial.clock).timers l.row-items l.id
