-- `release` meets its contract, by `refused`, `accepted` and `release_judged`. Assumes nothing.
use mathlib.Core.Path.{ap, ◌∙◌}
use Rattle.value_engine.specs.Engines.{with_scheduler, release_model}
use Rattle.place_calls.specs.Standing.{engine_in}
use Rattle.place_calls.proofs.Judging.{refused, accepted, release_judged}
use Rattle.place_calls.proofs.release.Goals as goal

pub returns-then-not-is_done : goal.returns-then-not-is_done
unfolding release_model
returns-then-not-is_done c =
    λ timing.
    let a = c.args in
    let x = engine_in a.cells.now timing a.counts in
    refused x 255 _ _ _ c.is_done.ensures
    (c.release_verdict-verdict.ensures ∙ release_judged x a.m _ _ c.running_at-running.ensures c.mutex_at-row.ensures)
    _ _ c.refuse.ensures c.if-not-is_done.true

pub returns : goal.returns
unfolding release_model
returns c =
    λ timing.
    let a = c.args in
    let x = engine_in a.cells.now timing a.counts in
    accepted x 255 _ _ _ c.is_done.ensures
    (c.release_verdict-verdict.ensures ∙ release_judged x a.m _ _ c.running_at-running.ensures c.mutex_at-row.ensures)
    _ _ _ (c.finish.ensures timing) (ap (with_scheduler x) c.release.ensures) c.if-not-is_done.false
