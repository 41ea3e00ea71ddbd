-- `broadcast` is its definition. The invariant: going on from here gives what the whole gives. Assumes nothing.
use Prim.Native.Nat.{◌+◌}
use mathlib.Core.Path.{◌≡◌, sym, ap, ◌∙◌}
use native.Mathlib.Omega.{arith}
use Rattle.value_effects.specs.declared.Signalled.{Signalled}
use Rattle.value_effects.proofs.Broadcasting.{on_from, broadcast_on, broadcast_none, broadcast_all}
use Rattle.place_tables.specs.Cells.{scheduler_in}
use Rattle.place_effects.proofs.Calls.{signal_quiet}
use Rattle.place_effects.proofs.broadcast.Goals as goal

pub returns-then-one-eq0 : goal.returns-then-one-eq0
returns-then-one-eq0 c =
    let l = c.loop-left in
    let e = c.signal-one.ensures in
    let none = ap (λ (s : Signalled). s.left) (sym e) ∙ c.if-one-eq0.true in
    let same = ap (λ (s : Signalled). s.scheduler) e ∙ signal_quiet (scheduler_in l.cells) _ none in
    ap (λ x. record { scheduler = x; left = l.left }) same ∙ sym (broadcast_none (scheduler_in l.cells) _ l.left (omega arith) none) ∙ l.invariant

pub loop-left-preserved : goal.loop-left-preserved
loop-left-preserved c =
    let l = c.loop-left in
    let e = c.signal-one.ensures in
    let k = c.args.c in
    ap (λ (s : Signalled). on_from (l.left + 1) s.scheduler k) e ∙ sym (broadcast_on (scheduler_in l.cells) k l.left (omega arith) (λ z. c.if-one-eq0.false (ap (λ (s : Signalled). s.left) e ∙ z))) ∙ l.invariant

pub returns : goal.returns
returns c =
    let l = c.loop-left in
    let all : l.left ≡ 32 = omega arith in
    ap (λ n. record { scheduler = scheduler_in l.cells; left = n }) (sym all) ∙ sym (broadcast_all (scheduler_in l.cells) _ l.left (omega arith)) ∙ l.invariant
