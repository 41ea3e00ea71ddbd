-- `put_timers` replaces the table. The invariant: the rows below id are the new ones. Assumes nothing.
use mathlib.Core.Path.{refl}
use Rattle.queue.proofs.Cases.{cases}
use Rattle.value_engine.specs.Engines.{no_timer}
use Rattle.place_clock.specs.Clock.{clock_in, with_timer}
use Rattle.laws.proofs.Copying.{copy_none, copy_next, copy_all}
use Rattle.place_clock.proofs.Words.{row_put, rows_long}
use Rattle.place_clock.proofs.put_timers.Goals as goal

pub loop-id-init : goal.loop-id-init
loop-id-init c = copy_none _ _ _ _ refl

pub loop-id-preserved : goal.loop-id-preserved
loop-id-preserved c =
    let l = c.loop-id in
    let x = clock_in c.args.clock.now in
    let less = c.loop-id-test.true in
    copy_next _ _ _ 32 l.id no_timer (λ y a. with_timer y l.id a) _ _ (rows_long _) (search cases) less (row_put x l.id less) l.invariant c.put_timer.ensures

pub returns : goal.returns
returns c = copy_all _ _ _ 32 _ _ (rows_long _) (search cases) c.loop-id-test.false c.loop-id.invariant
