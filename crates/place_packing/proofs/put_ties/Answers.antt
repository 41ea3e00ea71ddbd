-- `put_ties` replaces the table. The invariant: the rows below c are the new ones. Assumes nothing.
use mathlib.Core.Path.{refl}
use Rattle.queue.proofs.Cases.{cases}
use Rattle.value_effects.specs.Effects.{with_tie}
use Rattle.place_tables.specs.Cells.{scheduler_in}
use Rattle.laws.proofs.Copying.{copy_none, copy_next, copy_all}
use Rattle.place_packing.proofs.Putting.{tie_put, ties_long}
use Rattle.place_packing.proofs.put_ties.Goals as goal

pub loop-c-init : goal.loop-c-init
loop-c-init c = copy_none _ _ _ _ refl

pub loop-c-preserved : goal.loop-c-preserved
loop-c-preserved c =
    let l = c.loop-c in
    let x = scheduler_in c.args.cells.now in
    let less = c.loop-c-test.true in
    copy_next _ _ _ 16 l.c 0 (λ y a. with_tie y l.c a) _ _ (ties_long _) (search cases) less (tie_put x l.c less) l.invariant c.put_tie.ensures

pub returns : goal.returns
returns c = copy_all _ _ _ 16 _ _ (ties_long _) (search cases) c.loop-c-test.false c.loop-c.invariant
