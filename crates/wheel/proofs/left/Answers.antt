-- `left` meets its contract: the turns and the way to the spoke, each return by the tests that led there. Assumes nothing.
use borrow.Author.Tests.{le-leb, lt-leb}
use Rattle.wheel.specs.Inside.{way_in}
use Rattle.wheel.proofs.Laws.{left_always, left_hangs}
use Rattle.wheel.proofs.left.Goals as goal

pub returns-then-id-ge-TIMERS-clause-always : goal.returns-then-id-ge-TIMERS-clause-always
unfolding way_in
returns-then-id-ge-TIMERS-clause-always c =
    let a = c.args in
    left_always a.wheel.now a.id _ (rw (le-leb _ _ c.if-id-ge-TIMERS.true))

pub returns-then-id-ge-TIMERS-clause-hung : goal.returns-then-id-ge-TIMERS-clause-hung
returns-then-id-ge-TIMERS-clause-hung c = left_hangs c.args.wheel.now c.args.id _ (returns-then-id-ge-TIMERS-clause-always c)

pub returns-then-at-ge-SPOKES-clause-always : goal.returns-then-at-ge-SPOKES-clause-always
unfolding way_in
returns-then-at-ge-SPOKES-clause-always c =
    let a = c.args in
    left_always a.wheel.now a.id _ (rw (lt-leb _ _ c.if-id-ge-TIMERS.false, le-leb _ _ c.if-at-ge-SPOKES.true))

pub returns-then-at-ge-SPOKES-clause-hung : goal.returns-then-at-ge-SPOKES-clause-hung
returns-then-at-ge-SPOKES-clause-hung c = left_hangs c.args.wheel.now c.args.id _ (returns-then-at-ge-SPOKES-clause-always c)

pub returns-clause-always : goal.returns-clause-always
unfolding way_in
returns-clause-always c =
    let a = c.args in
    left_always a.wheel.now a.id _
    (rw (lt-leb _ _ c.if-id-ge-TIMERS.false, lt-leb _ _ c.if-at-ge-SPOKES.false, c.load-turns.ensures))

pub returns-clause-hung : goal.returns-clause-hung
returns-clause-hung c = left_hangs c.args.wheel.now c.args.id _ (returns-clause-always c)
