-- `stop_timer` meets its contract: by its verdict, and each call by its own. Assumes nothing.
use mathlib.Core.Path.{refl, ap, ◌∙◌}
use mathlib.Core.Bool.{false}
use Rattle.refusals.specs.Verdicts.{first_verdict, stop_verdict}
use Rattle.value_engine.specs.declared.Timer.{Timer}
use Rattle.value_engine.specs.declared.Effect.{Effect}
use Rattle.value_engine.specs.Engines.{answered_model, timer_stopped, stop_timer_model}
use Rattle.place_calls.proofs.Judging.{refused, accepted}
use Rattle.place_timers.specs.Arrays.{engine_on}
use Rattle.place_timers.proofs.stop_timer.Goals as goal

pub returns-then-not-is_done : goal.returns-then-not-is_done
unfolding stop_timer_model
returns-then-not-is_done c =
    let a = c.args in
    let x = engine_on a.cells.now a.clock.now a.wheel.now a.counts in
    let state = c.stop_verdict-state.ensures ∙ ap (λ (row : Timer). stop_verdict row.state) c.timer_at-row.ensures in
    refused x (timer_stopped x a.id).given _ _ _ c.is_done.ensures
    (c.first_of-verdict.ensures ∙ (λ i. first_verdict (c.id_verdict-ids.ensures i) (state i)))
    _ _ c.refuse.ensures c.if-not-is_done.true

pub returns : goal.returns
unfolding stop_timer_model
returns c =
    let a = c.args in
    let x = engine_on a.cells.now a.clock.now a.wheel.now a.counts in
    let state = c.stop_verdict-state.ensures ∙ ap (λ (row : Timer). stop_verdict row.state) c.timer_at-row.ensures in
    accepted x (timer_stopped x a.id).given _ _ _ c.is_done.ensures
    (c.first_of-verdict.ensures ∙ (λ i. first_verdict (c.id_verdict-ids.ensures i) (state i)))
    _ _ _ (c.finish.ensures _ ∙ ap (λ (e : Effect). answered_model e.engine e.given false) (c.timer_stopped-given.ensures a.cells.now a.counts))
    refl c.if-not-is_done.false
