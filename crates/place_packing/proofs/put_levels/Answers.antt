-- `put_levels` replaces the table. The invariant: the queues below p are the new ones. Assumes nothing.
use Prim.Native.Nat.{◌%◌}
use mathlib.Core.Path.{sym}
use native.Mathlib.Omega.{arith}
use Rattle.queue.proofs.Cases.{cases}
use Rattle.place_tables.specs.Changes.{with_queue}
use Rattle.place_tables.proofs.Storing.{set_back}
use Rattle.laws.proofs.Copying.{copy_none, copy_next, copy_all}
use Rattle.place_packing.proofs.Putting.{no_queue, level_put, levels_long}
use Rattle.place_packing.proofs.put_levels.Goals as goal

pub loop-p-init : goal.loop-p-init
loop-p-init c = (copy_none _ _ _ _ (sym (set_back _ _)))

pub loop-p-preserved : goal.loop-p-preserved
loop-p-preserved c =
    let l = c.loop-p in
    let given = c.args in
    let n = given.n % 33 in
    let less = c.loop-p-test.true in
    copy_next _ _ _ 16 l.p no_queue (λ y a. with_queue y n l.p a) _ _ (levels_long _ n (omega arith)) (search cases) less (level_put given.cells.now n l.p (omega arith)) l.invariant c.put_queue.ensures

pub returns : goal.returns
returns c = copy_all _ _ _ 16 _ _ (levels_long _ _ (omega arith)) (search cases) c.loop-p-test.false c.loop-p.invariant
