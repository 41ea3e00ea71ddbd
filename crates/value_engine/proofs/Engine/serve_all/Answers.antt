-- `Engine::serve_all` is its definition. The invariant: going on from here gives what the whole gives. Assumes nothing.
use mathlib.Core.Path.{◌≡◌, refl, sym, ap, ◌∙◌}
use native.Mathlib.Omega.{arith}
use Rattle.wheel.specs.Promise.{ids_of}
use Rattle.value_engine.proofs.Serving.{on_from, serve_on, serve_none, serve_full}
use Rattle.value_engine.proofs.Engine.serve_all.Goals as goal

pub loop-given-init : goal.loop-given-init
loop-given-init c = (omega arith, refl)

pub returns-then-id-ge-TIMERS : goal.returns-then-id-ge-TIMERS
returns-then-id-ge-TIMERS c =
    let l = c.loop-given in
    let none = rw c.first-id.ensures at c.if-id-ge-TIMERS.true in
    sym (serve_none l.engine (ids_of l.left) l.given c.loop-given-test.true none) ∙ l.invariant.1

pub loop-given-preserved : goal.loop-given-preserved
loop-given-preserved c =
    let l = c.loop-given in
    let e = c.first-id.ensures in
    let one = rw e at c.if-id-ge-TIMERS.false in
    (omega arith, rw (c.rest-left.ensures.ids, c.serve-engine.ensures, e) (sym (serve_on l.engine (ids_of l.left) l.given c.loop-given-test.true one) ∙ l.invariant.1))

pub returns : goal.returns
returns c =
    let l = c.loop-given in
    let e : l.given ≡ 32 = omega arith in
    sym (serve_full l.engine (ids_of l.left) 32 (omega arith)) ∙ ap (λ n. on_from n l.engine (ids_of l.left)) (sym e) ∙ l.invariant.1
