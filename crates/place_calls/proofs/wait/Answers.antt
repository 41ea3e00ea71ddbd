-- `wait` meets its contract, by `refused`, `accepted` and `wait_judged`. Assumes nothing.
use mathlib.Core.Path.{ap₂}
use Rattle.refusals.specs.Verdicts.{first_verdict}
use mathlib.Core.Path.{ap, ◌∙◌}
use Rattle.value_engine.specs.Engines.{with_scheduler, wait_model}
use Rattle.place_calls.specs.Standing.{engine_in}
use Rattle.place_calls.proofs.Judging.{refused, accepted, wait_judged}
use Rattle.place_calls.proofs.wait.Goals as goal

pub returns-then-not-is_done : goal.returns-then-not-is_done
unfolding wait_model
returns-then-not-is_done c =
    λ timing.
    let a = c.args in
    let x = engine_in a.cells.now timing a.counts in
    refused x 255 _ _ _ c.is_done.ensures
    (c.first_of-verdict.ensures ∙ ap₂ first_verdict c.ids_verdict-ids.ensures c.held_verdict-held.ensures ∙ wait_judged x a.m _ _ c.running_at-running.ensures c.mutex_at-row.ensures a.c _ _ c.owned_by-owned.ensures c.tie_at-tie.ensures)
    _ _ c.refuse.ensures c.if-not-is_done.true

pub returns : goal.returns
unfolding wait_model
returns c =
    λ timing.
    let a = c.args in
    let x = engine_in a.cells.now timing a.counts in
    accepted x 255 _ _ _ c.is_done.ensures
    (c.first_of-verdict.ensures ∙ ap₂ first_verdict c.ids_verdict-ids.ensures c.held_verdict-held.ensures ∙ wait_judged x a.m _ _ c.running_at-running.ensures c.mutex_at-row.ensures a.c _ _ c.owned_by-owned.ensures c.tie_at-tie.ensures)
    _ _ _ (c.finish.ensures timing) (ap (with_scheduler x) c.wait.ensures) c.if-not-is_done.false
