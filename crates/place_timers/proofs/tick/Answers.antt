-- `tick` meets its contract: by whether the scheduler has started, and each call by its own. Assumes nothing.
use Prim.Native.Nat.{◌+◌, ◌%◌}
use mathlib.Core.Path.{ap, ◌∙◌}
use borrow.Author.Tests.{not-true, not-false}
use Rattle.wheel.specs.Promise.{wheel_in, ids_of}
use Rattle.value_engine.specs.Engines.{serve_all_model}
use Rattle.place_clock.specs.Clock.{Clock, clock_in, with_count}
use Rattle.place_calls.specs.Standing.{engine_in}
use Rattle.place_timers.specs.Arrays.{engine_on}
use Rattle.place_timers.proofs.Ticking.{tick_stopped, tick_served}
use Rattle.place_timers.proofs.tick.Goals as goal

pub returns-then-not-counts : goal.returns-then-not-counts
returns-then-not-counts c =
    let a = c.args in
    tick_stopped (engine_on a.cells.now a.clock.now a.wheel.now a.counts) _ (not-true a.counts.started c.if-not-counts.true) c.refuse.ensures

pub returns : goal.returns
returns c =
    let a = c.args in
    let x = engine_on a.cells.now a.clock.now a.wheel.now a.counts in
    let counted = c.put_count.ensures ∙ ap (λ n. with_count (clock_in a.clock.now) ((n + 1) % 4294967296)) c.count_at-count.ensures in
    let turning = ap (λ (t : Clock). serve_all_model 32 0 (engine_in a.cells.now (record { timers = t.timers; wheel = wheel_in c.tick-turned.new.wheel; count = t.count }) a.counts) (ids_of c.tick-turned.result.due)) counted in
    tick_served x (not-false a.counts.started c.if-not-counts.false) _ c.tick-turned.ensures.always _ _ (c.serve_all-given.ensures a.counts ∙ turning) (c.finish.ensures _)
