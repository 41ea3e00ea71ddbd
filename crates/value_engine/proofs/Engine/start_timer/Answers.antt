-- `Engine::start_timer` meets its contract: by the length of the delay and the verdict, and each call by its own. Assumes nothing.
use borrow.Author.Tests.{ne_eqb}
use native.Mathlib.Omega.{arith}
use Rattle.calls.specs.declared.Verdict.TheVariants.{OutOfRange}
use Rattle.calls.specs.Answers.{number_of}
use Rattle.refusals.specs.Verdicts.{first_verdict, delay_verdict}
use Rattle.refusals.proofs.Delays.{first_refuses}
use Rattle.value_engine.specs.Engines.{start_timer_model}
use Rattle.value_engine.proofs.Engine.start_timer.Goals as goal

pub returns-in_default : goal.returns-in_default
unfolding start_timer_model delay_verdict
returns-in_default c =
    let ids = c.ids_verdict-ids.result in
    rw (← c.ids_verdict-ids.ensures, ← c.ticks_of.ensures, c.in_default.is, ne_eqb (number_of (first_verdict ids OutOfRange)) 0 (first_refuses ids OutOfRange (λ z. omega (arith, z))), ← c.first_of-refusal.ensures) c.refused.ensures

pub returns-then-not-is_done : goal.returns-then-not-is_done
unfolding start_timer_model delay_verdict
returns-then-not-is_done c =
    rw (← c.ids_verdict-ids.ensures, ← c.ticks_of.ensures, c.in-Some.is, ← c.start_timer_verdict-stopped.ensures, ← c.first_of-verdict.ensures, ← c.is_done.ensures, c.if-not-is_done.true) c.refused-then-not-is_done.ensures

pub returns : goal.returns
unfolding start_timer_model delay_verdict
returns c =
    rw (← c.ids_verdict-ids.ensures, ← c.ticks_of.ensures, c.in-Some.is, ← c.start_timer_verdict-stopped.ensures, ← c.first_of-verdict.ensures, ← c.is_done.ensures, c.if-not-is_done.false, ← c.state_of-state.ensures, ← c.length_kept-length.ensures, ← c.start-after.ensures.always) c.answered.ensures
