-- `create_timer` meets its contract, by `refused` and `accepted`. Assumes nothing.
use Prim.Native.Nat.{◌+◌, ◌%◌}
use mathlib.Core.Path.{refl, ap, ◌∙◌}
use Rattle.value_engine.specs.Engines.{create_timer_model}
use Rattle.place_calls.specs.declared.Counts.{Counts}
use Rattle.place_calls.specs.declared.Counted.{Counted}
use Rattle.place_calls.specs.Standing.{engine_in, stepped_in}
use Rattle.place_calls.proofs.Judging.{refused, accepted}
use Rattle.place_calls.proofs.create_timer.Goals as goal

pub returns-then-not-is_done : goal.returns-then-not-is_done
unfolding create_timer_model
returns-then-not-is_done c =
    λ timing.
    let a = c.args in
    let x = engine_in a.cells.now timing a.counts in
    ap (λ (r : Counted). stepped_in a.cells.now timing r.counts r.answer) c.with_answer.ensures
    ∙ refused x a.counts.timercount _ _ _ c.is_done.ensures c.room_verdict-verdict.ensures _ _ c.refuse-answer.ensures c.if-not-is_done.true

pub returns : goal.returns
unfolding create_timer_model
returns c =
    λ timing.
    let a = c.args in
    let x = engine_in a.cells.now timing a.counts in
    let n : Counts = record { started = a.counts.started; threads = a.counts.threads; mutexes = a.counts.mutexes; conditions = a.counts.conditions; timercount = a.counts.timercount % 32 + 1 } in
    ap (λ (r : Counted). stepped_in c.finish-answer.new.cells timing r.counts r.answer) c.with_answer-2.ensures
    ∙ accepted x a.counts.timercount _ _ _ c.is_done.ensures c.room_verdict-verdict.ensures _ _ _ (c.finish-answer.ensures timing) refl c.if-not-is_done.false
