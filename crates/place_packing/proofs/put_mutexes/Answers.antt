-- `put_mutexes` replaces the table. The invariant: the rows below m are the new ones. Assumes nothing.
use mathlib.Core.Path.{refl}
use Rattle.queue.proofs.Cases.{cases}
use Rattle.value_effects.specs.Effects.{no_mutex, with_mutex}
use Rattle.place_tables.specs.Cells.{scheduler_in}
use Rattle.laws.proofs.Copying.{copy_none, copy_next, copy_all}
use Rattle.place_packing.proofs.Putting.{mutex_put, mutexes_long}
use Rattle.place_packing.proofs.put_mutexes.Goals as goal

pub loop-m-init : goal.loop-m-init
loop-m-init c = copy_none _ _ _ _ refl

pub loop-m-preserved : goal.loop-m-preserved
loop-m-preserved c =
    let l = c.loop-m in
    let x = scheduler_in c.args.cells.now in
    let less = c.loop-m-test.true in
    copy_next _ _ _ 16 l.m no_mutex (λ y a. with_mutex y l.m a) _ _ (mutexes_long _) (search cases) less (mutex_put x l.m less) l.invariant c.put_mutex.ensures

pub returns : goal.returns
returns c = copy_all _ _ _ 16 _ _ (mutexes_long _) (search cases) c.loop-m-test.false c.loop-m.invariant
