-- `stop` meets its contract, each return by the tests that led there. Assumes nothing.
use borrow.Author.Tests.{le-leb, lt-leb}
use Rattle.wheel.specs.Inside.{taken_in, taken_off}
use Rattle.wheel.proofs.Laws.{stop_always, stop_hung}
use Rattle.wheel.proofs.stop.Goals as goal

pub returns-then-id-ge-TIMERS-clause-always : goal.returns-then-id-ge-TIMERS-clause-always
unfolding taken_in
returns-then-id-ge-TIMERS-clause-always c =
    let a = c.args in
    stop_always a.wheel.now _ a.id (rw (le-leb _ _ c.if-id-ge-TIMERS.true))

pub returns-then-id-ge-TIMERS-clause-hung : goal.returns-then-id-ge-TIMERS-clause-hung
returns-then-id-ge-TIMERS-clause-hung c = stop_hung c.args.wheel.now _ c.args.id (returns-then-id-ge-TIMERS-clause-always c)

pub returns-then-at-ge-SPOKES-clause-always : goal.returns-then-at-ge-SPOKES-clause-always
unfolding taken_in
returns-then-at-ge-SPOKES-clause-always c =
    let a = c.args in
    stop_always a.wheel.now _ a.id (rw (lt-leb _ _ c.if-id-ge-TIMERS.false, le-leb _ _ c.if-at-ge-SPOKES.true))

pub returns-then-at-ge-SPOKES-clause-hung : goal.returns-then-at-ge-SPOKES-clause-hung
returns-then-at-ge-SPOKES-clause-hung c = stop_hung c.args.wheel.now _ c.args.id (returns-then-at-ge-SPOKES-clause-always c)

pub returns-clause-always : goal.returns-clause-always
unfolding taken_in taken_off
returns-clause-always c =
    let a = c.args in
    stop_always a.wheel.now _ a.id
    (rw (lt-leb _ _ c.if-id-ge-TIMERS.false, lt-leb _ _ c.if-at-ge-SPOKES.false, c.bit.ensures))

pub returns-clause-hung : goal.returns-clause-hung
returns-clause-hung c = stop_hung c.args.wheel.now _ c.args.id (returns-clause-always c)
