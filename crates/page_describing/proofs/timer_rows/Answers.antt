-- `timer_rows` makes the table entry by entry. Assumes nothing.
use mathlib.Core.Path.{◌∙◌}
use borrow.Author.Rules.{rules}
use Rattle.wheel.specs.Promise.{wheel_in}
use Rattle.laws.proofs.Making.{made}
use Rattle.place_clock.specs.Clock.{clock_in}
use Rattle.page.specs.Says.{stopped_timer_row, timer_for}
use Rattle.page_describing.specs.Describing.{timer_at}
use Rattle.page_describing.proofs.Numbers.{timer_there}
use Rattle.page_describing.proofs.timer_rows.Goals as goal

pub returns : goal.returns
returns c =
    let clock = clock_in c.args.clock.now in
    let wheel = wheel_in c.args.wheel.now in
    made 32 (timer_at clock.timers wheel) (λ i row f l call. (λ j. (call.met.1.0 j, call.met.1.1 j), search (call, rules) ∙ timer_there clock wheel i l)) c.from_fn.ensures.items (timer_for stopped_timer_row)
