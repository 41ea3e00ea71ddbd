-- `signal` meets its contract, by `refused` and `accepted`. Assumes nothing.
use mathlib.Core.Bool.{false}
use Rattle.value_effects.specs.declared.Signalled.{Signalled}
use mathlib.Core.Path.{ap, ◌∙◌}
use Rattle.value_engine.specs.Engines.{with_scheduler, signal_model, answered_model}
use Rattle.place_calls.specs.Standing.{engine_in}
use Rattle.place_calls.proofs.Judging.{refused, accepted}
use Rattle.place_calls.proofs.signal.Goals as goal

pub returns-then-not-is_done : goal.returns-then-not-is_done
unfolding signal_model
returns-then-not-is_done c =
    λ timing.
    let a = c.args in
    let x = engine_in a.cells.now timing a.counts in
    refused x _ _ _ _ c.is_done.ensures c.id_verdict-verdict.ensures _ _ c.refuse.ensures c.if-not-is_done.true

pub returns : goal.returns
unfolding signal_model
returns c =
    λ timing.
    let a = c.args in
    let x = engine_in a.cells.now timing a.counts in
    let e = c.signal-left.ensures in
    accepted x _ _ _ _ c.is_done.ensures c.id_verdict-verdict.ensures _ _ _
    (c.finish.ensures timing ∙ ap (λ (g : Signalled). answered_model (engine_in c.signal-left.new.cells timing a.counts) g.left false) e)
    (ap (λ (g : Signalled). with_scheduler x g.scheduler) e) c.if-not-is_done.false
