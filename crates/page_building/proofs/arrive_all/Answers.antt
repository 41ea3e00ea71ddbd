-- `arrive_all` takes one place after the other. The invariant: those of the places below this one have arrived. Assumes nothing.
use Prim.Native.Nat.{min}
use mathlib.Core.Path.{refl}
use Rattle.page_building.specs.Building.{arrived_below, arrived_places}
use Rattle.page_building.proofs.Turns.{going_starts, going_turns, going_ends}
use Rattle.page_building.proofs.arrive_all.Goals as goal

pub loop-place-init : goal.loop-place-init
loop-place-init c = going_starts 32 _ _ _ _ c.min-place-end.ensures (unfold arrived_places in refl)

pub loop-place-preserved : goal.loop-place-preserved
loop-place-preserved c =
    let l = c.loop-place in
    let a = c.args in
    going_turns 32 _ _ _ _ _ _ (λ x. arrived_below a.rows l.place (min a.n 32) x) l.invariant c.loop-place-test.true c.arrive_place.ensures (unfold arrived_places in refl)

pub returns : goal.returns
returns c = going_ends 32 _ _ _ _ _ c.loop-place.invariant c.loop-place-test.false
