-- `serve_all` is its definition. The invariant: going on from here gives what the whole gives. Assumes nothing.
use mathlib.Core.Path.{◌≡◌, sym, ap, ◌∙◌}
use native.Mathlib.Omega.{arith}
use Rattle.wheel.specs.Promise.{ids_of}
use Rattle.value_engine.proofs.Serving.{serve_none, serve_full}
use Rattle.place_timers.specs.Arrays.{effect_on}
use Rattle.place_timers.proofs.Serving.{goes_on}
use Rattle.place_timers.proofs.serve_all.Goals as goal

pub returns-then-id-ge-TIMERS : goal.returns-then-id-ge-TIMERS
returns-then-id-ge-TIMERS c = λ counts.
    let l = c.loop-given in
    sym (serve_none _ (ids_of l.left) l.given (omega arith) (rw c.first-id.ensures at c.if-id-ge-TIMERS.true)) ∙ l.invariant counts

pub loop-given-preserved : goal.loop-given-preserved
loop-given-preserved c = λ counts.
    let l = c.loop-given in
    goes_on _ _ _ (ids_of l.left) _ l.given _ (omega arith) c.if-id-ge-TIMERS.false c.first-id.ensures c.rest-left.ensures.ids (c.serve.ensures counts) (l.invariant counts)

pub returns : goal.returns
returns c = λ counts.
    let l = c.loop-given in
    let all : l.given ≡ 32 = omega arith in
    ap (effect_on l.cells l.clock l.wheel counts) (sym all) ∙ sym (serve_full _ (ids_of l.left) l.given (omega arith)) ∙ l.invariant counts
