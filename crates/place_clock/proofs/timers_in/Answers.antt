-- `timers_in` makes the table entry by entry. Assumes nothing.
use mathlib.Core.Path.{◌∙◌}
use borrow.Author.Rules.{rules}
use Rattle.laws.proofs.Making.{made}
use Rattle.value_engine.specs.Engines.{no_timer}
use Rattle.place_clock.specs.Clock.{clock_in, timer_in}
use Rattle.place_clock.proofs.Words.{timer_within}
use Rattle.place_clock.proofs.timers_in.Goals as goal

pub returns : goal.returns
unfolding clock_in
returns c = made 32 (timer_in c.args.clock.now) (λ i row f l call. (λ j. record { 0 = call.met.1 j }, search (call, rules) ∙ timer_within _ i l)) c.from_fn.ensures.items no_timer
