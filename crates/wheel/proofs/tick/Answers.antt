-- `tick` meets its contract. The loop's invariant: what the timers still to visit make of the words is what all of them make.
-- The measure is the word of those still to visit. Assumes nothing.
use Prim.Native.Nat.{◌<◌, ◌-◌}
use mathlib.Core.Path.{◌≡◌, ap, ◌∙◌}
use native.Mathlib.Omega.{arith}
use lib.Bits.{bit_or, and_le_r}
use lib.Count.{count_trailing_zeros}
use Rattle.wheel.specs.Inside.{next_at, cleared, moved, turned_at, turned_in}
use Rattle.wheel.proofs.Walk.{goes, gone, id_lt, goes_due, goes_round}
use Rattle.wheel.proofs.Laws.{tick_always, tick_hung, tick_order}
use Rattle.wheel.proofs.tick.Goals.{In-loop-rest, then-wheel-i-eq0, else-wheel-i-eq0}
use Rattle.wheel.proofs.tick.Goals as goal

-- in the loop, the lowest id is one of the 32
low : (c : In-loop-rest) → count_trailing_zeros 32 c.loop-rest.rest < 32
low c = id_lt _ _ _ _ _ c.loop-rest.invariant c.loop-rest-test.true

pub loop-rest-init : goal.loop-rest-init
loop-rest-init c = goes _ _ (omega arith)

pub overflow_cast-id : goal.overflow_cast-id
overflow_cast-id c = omega (arith, low (goal.at.overflow_cast-id c).In-loop-rest)

pub overflow_cast-i : goal.overflow_cast-i
overflow_cast-i c = omega (arith, low (goal.at.overflow_cast-i c).In-loop-rest)

pub overflow_add-i : goal.overflow_add-i
overflow_add-i c = omega (arith, low (goal.at.overflow_add-i c).In-loop-rest)

pub offset_bounds-wheel-i : goal.offset_bounds-wheel-i
offset_bounds-wheel-i c = omega (arith, low (goal.at.offset_bounds-wheel-i c).In-loop-rest)

pub bounds-wheel-i : goal.bounds-wheel-i
bounds-wheel-i c = omega (arith, low (goal.at.bounds-wheel-i c).In-loop-rest)

pub overflow_add-wheel : goal.overflow_add-wheel
overflow_add-wheel c = omega (arith, low (goal.at.overflow_add-wheel c).In-loop-rest)

pub offset_bounds-wheel-i-then-wheel-i-eq0 : goal.offset_bounds-wheel-i-then-wheel-i-eq0
offset_bounds-wheel-i-then-wheel-i-eq0 c = omega (arith, low (goal.at.offset_bounds-wheel-i-then-wheel-i-eq0 c).In-loop-rest)

pub bounds-wheel-i-then-wheel-i-eq0 : goal.bounds-wheel-i-then-wheel-i-eq0
bounds-wheel-i-then-wheel-i-eq0 c = omega (arith, low (goal.at.bounds-wheel-i-then-wheel-i-eq0 c).In-loop-rest)

pub overflow_add-wheel-else-wheel-i-eq0 : goal.overflow_add-wheel-else-wheel-i-eq0
overflow_add-wheel-else-wheel-i-eq0 c = omega (arith, low (goal.at.overflow_add-wheel-else-wheel-i-eq0 c).In-loop-rest)

pub offset_bounds-wheel-i-else-wheel-i-eq0 : goal.offset_bounds-wheel-i-else-wheel-i-eq0
offset_bounds-wheel-i-else-wheel-i-eq0 c = omega (arith, low (goal.at.offset_bounds-wheel-i-else-wheel-i-eq0 c).In-loop-rest)

pub bounds-wheel-i-else-wheel-i-eq0 : goal.bounds-wheel-i-else-wheel-i-eq0
bounds-wheel-i-else-wheel-i-eq0 c = omega (arith, low (goal.at.bounds-wheel-i-else-wheel-i-eq0 c).In-loop-rest)

pub bounds-wheel-i-else-wheel-i-eq0-2 : goal.bounds-wheel-i-else-wheel-i-eq0-2
bounds-wheel-i-else-wheel-i-eq0-2 c = omega (arith, low (goal.at.bounds-wheel-i-else-wheel-i-eq0-2 c).In-loop-rest)

pub overflow_add-visits : goal.overflow_add-visits
overflow_add-visits c = omega (arith, c.loop-rest.invariant.room)

pub loop-rest-smaller : goal.loop-rest-smaller
loop-rest-smaller c =
    let r = c.loop-rest.rest in
    omega (arith, and_le_r r (r - 1))

pub loop-rest-preserved : goal.loop-rest-preserved
loop-rest-preserved c =
    let l = c.loop-rest in
    let t = c.loop-rest-test.true in
    elim c.if-wheel-i-eq0.branch [
      | then-wheel-i-eq0 w ↦ goes_due _ _ _ _ _ l.invariant t _ _ w.if-wheel-i-eq0.true w.wheel-is (w.due-is ∙ ap (bit_or l.due) w.bit-due.ensures)
      | else-wheel-i-eq0 w ↦ goes_round _ _ _ _ _ l.invariant t _ _ w.if-wheel-i-eq0.false w.wheel-is w.due-is
    ]

pub returns-clause-always : goal.returns-clause-always
unfolding turned_in turned_at moved cleared
returns-clause-always c =
    let k = c.args.wheel.now in
    let l = c.loop-rest in
    let z : l.rest ≡ 0 = omega arith in
    tick_always k _ _ (ap (cleared (next_at k)) (gone _ _ _ _ _ l.invariant z) ∙ rw c.load-rest.ensures)

pub returns-clause-hung : goal.returns-clause-hung
returns-clause-hung c = tick_hung c.args.wheel.now _ _ (returns-clause-always c)

pub returns-clause-order : goal.returns-clause-order
returns-clause-order c = tick_order c.args.wheel.now _ _ (returns-clause-always c)
