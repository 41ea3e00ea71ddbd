-- `Scheduler::broadcast` is its definition. The invariant: going on from here gives what the whole gives. Assumes nothing.
use mathlib.Core.Path.{◌≡◌, refl, sym, ap, ◌∙◌}
use native.Mathlib.Omega.{arith}
use Rattle.value_effects.proofs.Broadcasting.{on_from, broadcast_on, broadcast_none, broadcast_all}
use Rattle.value_effects.proofs.Scheduler.broadcast.Goals as goal

pub loop-left-init : goal.loop-left-init
loop-left-init c = (omega arith, refl)

pub returns-then-signalled-eq0 : goal.returns-then-signalled-eq0
returns-then-signalled-eq0 c =
    let l = c.loop-left in
    let none = rw c.signal-signalled.ensures at c.if-signalled-eq0.true in
    sym (broadcast_none l.scheduler _ l.left (omega arith) none) ∙ l.invariant.1

pub loop-left-preserved : goal.loop-left-preserved
loop-left-preserved c =
    let l = c.loop-left in
    let one = rw c.signal-signalled.ensures at c.if-signalled-eq0.false in
    (omega arith, rw c.signal-signalled.ensures (sym (broadcast_on l.scheduler _ l.left (omega arith) one) ∙ l.invariant.1))

pub returns : goal.returns
returns c =
    let l = c.loop-left in
    let e : l.left ≡ 32 = omega arith in
    sym (broadcast_all l.scheduler _ 32 (omega arith)) ∙ ap (λ n. on_from n l.scheduler c.args.c) (sym e) ∙ l.invariant.1
