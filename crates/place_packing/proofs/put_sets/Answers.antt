-- `put_sets` replaces the table. The invariant: the sets below m are the new ones. Assumes nothing.
use Prim.Native.Nat.{◌+◌, ◌%◌}
use Rattle.queue.proofs.Cases.{cases}
use Rattle.value_effects.specs.Effects.{no_set}
use Rattle.place_tables.specs.Cells.{scheduler_in}
use Rattle.place_packing.specs.Tables.{first_set, with_levels}
use Rattle.laws.proofs.Copying.{copy_none, copy_next, copy_all}
use Rattle.place_packing.proofs.Putting.{sets_back, set_put, sets_long}
use Rattle.place_packing.proofs.put_sets.Goals as goal

pub loop-m-init : goal.loop-m-init
loop-m-init c = copy_none _ _ _ _ (sets_back _ _)

pub loop-m-preserved : goal.loop-m-preserved
loop-m-preserved c =
    let l = c.loop-m in
    let given = c.args in
    let x = scheduler_in given.cells.now in
    let less = c.loop-m-test.true in
    copy_next _ _ _ 16 l.m no_set (λ y a. with_levels y ((first_set given.kind + l.m) % 33) a.levels) _ _ (sets_long _ _) (search cases) less (set_put x given.kind l.m less) l.invariant c.put_levels.ensures

pub returns : goal.returns
returns c = copy_all _ _ _ 16 _ _ (sets_long _ _) (search cases) c.loop-m-test.false c.loop-m.invariant
