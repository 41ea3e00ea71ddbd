-- `acquire` meets its contract, by `refused`, `accepted` and `acquire_judged`. Assumes nothing.
use mathlib.Core.Path.{ap, ◌∙◌}
use Rattle.value_engine.specs.Engines.{with_scheduler, acquire_model}
use Rattle.place_calls.specs.Standing.{engine_in}
use Rattle.place_calls.proofs.Judging.{refused, accepted, acquire_judged}
use Rattle.place_calls.proofs.acquire.Goals as goal

pub returns-then-not-is_done : goal.returns-then-not-is_done
unfolding acquire_model
returns-then-not-is_done c =
    λ timing.
    let a = c.args in
    let x = engine_in a.cells.now timing a.counts in
    refused x 255 _ _ _ c.is_done.ensures
    (c.acquire_verdict-verdict.ensures ∙ acquire_judged x a.m _ _ c.running_at-running.ensures c.mutex_at-row.ensures _ c.thread_at-caller.ensures)
    _ _ c.refuse.ensures c.if-not-is_done.true

pub returns : goal.returns
unfolding acquire_model
returns c =
    λ timing.
    let a = c.args in
    let x = engine_in a.cells.now timing a.counts in
    accepted x 255 _ _ _ c.is_done.ensures
    (c.acquire_verdict-verdict.ensures ∙ acquire_judged x a.m _ _ c.running_at-running.ensures c.mutex_at-row.ensures _ c.thread_at-caller.ensures)
    _ _ _ (c.finish.ensures timing) (ap (with_scheduler x) c.acquire.ensures) c.if-not-is_done.false
