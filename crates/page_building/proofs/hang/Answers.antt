-- `hang` starts one timer after the other. The invariant: those below id hang. Assumes nothing.
use mathlib.Core.Path.{refl}
use lib.ListN.{get_or}
use Rattle.wheel.specs.Promise.{started_in}
use Rattle.page.specs.Says.{no_timer_row}
use Rattle.page_building.specs.Building.{hung_below}
use Rattle.page_building.proofs.Turns.{going_starts, going_turns, going_ends}
use Rattle.page_building.proofs.hang.Goals as goal

pub loop-id-init : goal.loop-id-init
loop-id-init c = going_starts 32 _ _ _ _ c.min-id-end.ensures (unfold hung_below in refl)

pub loop-id-preserved : goal.loop-id-preserved
loop-id-preserved c =
    let l = c.loop-id in
    going_turns 32 _ _ _ _ _ _ (λ w. started_in w l.id (get_or c.args.rows l.id no_timer_row).left.0) l.invariant c.loop-id-test.true c.start.ensures.always (unfold hung_below in refl)

pub returns : goal.returns
returns c = going_ends 32 _ _ _ _ _ c.loop-id.invariant c.loop-id-test.false
