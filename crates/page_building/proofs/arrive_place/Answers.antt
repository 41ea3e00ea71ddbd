-- `arrive_place` lets one thread after the other arrive. The invariant: those below t have arrived. Assumes nothing.
use mathlib.Core.Path.{refl}
use lib.ListN.{get_or}
use Rattle.page.specs.Says.{no_thread_row}
use Rattle.page_building.specs.Building.{arrived_one, arrived_below}
use Rattle.page_building.proofs.Turns.{going_starts, going_turns, going_ends}
use Rattle.page_building.proofs.arrive_place.Goals as goal

pub loop-t-init : goal.loop-t-init
loop-t-init c = going_starts 32 _ _ _ _ c.min-t-end.ensures (unfold arrived_below in refl)

pub loop-t-preserved : goal.loop-t-preserved
loop-t-preserved c =
    let l = c.loop-t in
    let a = c.args in
    going_turns 32 _ _ _ _ _ _ (λ x. arrived_one x (get_or a.rows l.t no_thread_row) a.place l.t) l.invariant c.loop-t-test.true c.arrive_one.ensures (unfold arrived_below in refl)

pub returns : goal.returns
returns c = going_ends 32 _ _ _ _ _ c.loop-t.invariant c.loop-t-test.false
