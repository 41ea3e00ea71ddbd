-- `start_timer` meets its contract: by the length of the delay and the verdict, and each call by its own. Assumes nothing.
use mathlib.Core.Path.{ap, ◌∙◌}
use Rattle.refusals.specs.Verdicts.{start_timer_verdict}
use Rattle.value_engine.specs.declared.Timer.{Timer}
use Rattle.value_engine.specs.Engines.{with_timer}
use Rattle.wheel.specs.Promise.{wheel_in}
use Rattle.place_clock.specs.Clock.{Clock}
use Rattle.place_calls.specs.Standing.{engine_in}
use Rattle.place_timers.specs.Arrays.{engine_on}
use Rattle.place_timers.proofs.Starting.{start_out_of_range, start_refused, start_done}
use Rattle.place_timers.proofs.start_timer.Goals as goal

pub returns-in_default : goal.returns-in_default
returns-in_default c =
    let a = c.args in
    let x = engine_on a.cells.now a.clock.now a.wheel.now a.counts in
    start_out_of_range x a.id a.c a.kind a.v _ _ _ c.ids_verdict-ids.ensures c.ticks_of.ensures _
    c.in_default.is c.first_of-verdict.ensures c.refuse.ensures

pub returns-then-not-is_done : goal.returns-then-not-is_done
returns-then-not-is_done c =
    let a = c.args in
    let x = engine_on a.cells.now a.clock.now a.wheel.now a.counts in
    let state = c.start_timer_verdict-stopped.ensures ∙ ap (λ (row : Timer). start_timer_verdict row.state) c.timer_at-row.ensures in
    start_refused x a.id a.c a.kind a.v _ _ _ c.ids_verdict-ids.ensures c.ticks_of.ensures
    _ _ _ c.in-Some.is state c.first_of-verdict-2.ensures c.is_done.ensures
    _ c.refuse-then-not-is_done.ensures c.if-not-is_done.true

pub returns : goal.returns
returns c =
    let a = c.args in
    let x = engine_on a.cells.now a.clock.now a.wheel.now a.counts in
    let state = c.start_timer_verdict-stopped.ensures ∙ ap (λ (row : Timer). start_timer_verdict row.state) c.timer_at-row.ensures in
    start_done x a.id a.c a.kind a.v _ _ _ c.ids_verdict-ids.ensures c.ticks_of.ensures
    _ _ _ c.in-Some.is state c.first_of-verdict-2.ensures c.is_done.ensures
    _ _ (c.finish.ensures _)
    (ap (λ (t : Clock). engine_in a.cells.now (record { timers = t.timers; wheel = wheel_in c.start.new.wheel; count = t.count }) a.counts) c.put_timer.ensures
    ∙ (λ i. with_timer x a.id (record { state = c.state_of-state.ensures i; condition = a.c; length = c.length_kept-length.ensures i }) (c.start.ensures.always i)))
    c.if-not-is_done.false
