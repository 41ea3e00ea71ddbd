-- `serve` meets its contract: by the test on the state, and each call by its own. Assumes nothing.
use mathlib.Core.Path.{refl, ap, ◌∙◌}
use Rattle.wheel.specs.Promise.{wheel_in}
use Rattle.place_calls.specs.Standing.{engine_in}
use Rattle.place_clock.specs.Clock.{Clock}
use Rattle.place_timers.specs.Arrays.{timing_in}
use Rattle.place_timers.proofs.Serving.{serves_periodic, serves_other}
use Rattle.place_timers.proofs.serve.Goals as goal

pub returns-then-row-eq-PERIODIC : goal.returns-then-row-eq-PERIODIC
returns-then-row-eq-PERIODIC c =
    let a = c.args in
    λ counts. serves_periodic a.cells.now _ (timing_in a.clock.now a.wheel.now) a.id _ _ c.timer_at-row.ensures c.signal.ensures counts _ c.if-row-eq-PERIODIC.true c.start.ensures.always

pub returns : goal.returns
returns c =
    let a = c.args in
    let put = c.put_timer.ensures in
    λ counts. ap (λ (t : Clock). engine_in c.signal.new.cells (record { timers = t.timers; wheel = wheel_in a.wheel.now; count = t.count }) counts) put
    ∙ serves_other a.cells.now _ (timing_in a.clock.now a.wheel.now) a.id _ _ c.timer_at-row.ensures c.signal.ensures counts _ c.if-row-eq-PERIODIC.false refl
