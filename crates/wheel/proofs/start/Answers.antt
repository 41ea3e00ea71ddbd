-- `start` meets its contract, each return by the tests that led there. Assumes nothing.
use borrow.Author.Tests.{le-leb, lt-leb, lt-ltb, le-ltb, eq-eqb, ne_eqb}
use Rattle.wheel.specs.Hung.{turns_of}
use Rattle.wheel.specs.Inside.{hung_in, hung_on}
use Rattle.wheel.proofs.Laws.{start_always, start_hung}
use Rattle.wheel.proofs.start.Goals as goal

pub returns-then-id-ge-TIMERS-clause-always : goal.returns-then-id-ge-TIMERS-clause-always
unfolding hung_in
returns-then-id-ge-TIMERS-clause-always c =
    let a = c.args in
    start_always a.wheel.now _ a.id a.n.0 (rw (le-leb _ _ c.if-id-ge-TIMERS.true))

pub returns-then-id-ge-TIMERS-clause-hung : goal.returns-then-id-ge-TIMERS-clause-hung
returns-then-id-ge-TIMERS-clause-hung c = start_hung c.args.wheel.now _ c.args.id c.args.n.0 (returns-then-id-ge-TIMERS-clause-always c)

pub returns-then-wheel-i-lt-SPOKES-clause-always : goal.returns-then-wheel-i-lt-SPOKES-clause-always
unfolding hung_in
returns-then-wheel-i-lt-SPOKES-clause-always c =
    let a = c.args in
    start_always a.wheel.now _ a.id a.n.0 (rw (lt-leb _ _ c.if-id-ge-TIMERS.false, lt-ltb _ _ c.if-wheel-i-lt-SPOKES.true))

pub returns-then-wheel-i-lt-SPOKES-clause-hung : goal.returns-then-wheel-i-lt-SPOKES-clause-hung
returns-then-wheel-i-lt-SPOKES-clause-hung c = start_hung c.args.wheel.now _ c.args.id c.args.n.0 (returns-then-wheel-i-lt-SPOKES-clause-always c)

pub returns-then-r-eq0-clause-always : goal.returns-then-r-eq0-clause-always
unfolding hung_in
returns-then-r-eq0-clause-always c =
    let a = c.args in
    start_always a.wheel.now _ a.id a.n.0
    (rw (lt-leb _ _ c.if-id-ge-TIMERS.false, le-ltb _ _ c.if-wheel-i-lt-SPOKES.false, eq-eqb _ _ c.if-r-eq0.true))

pub returns-then-r-eq0-clause-hung : goal.returns-then-r-eq0-clause-hung
returns-then-r-eq0-clause-hung c = start_hung c.args.wheel.now _ c.args.id c.args.n.0 (returns-then-r-eq0-clause-always c)

pub returns-clause-always : goal.returns-clause-always
unfolding hung_in hung_on turns_of
returns-clause-always c =
    let a = c.args in
    start_always a.wheel.now _ a.id a.n.0
    (rw (
      lt-leb _ _ c.if-id-ge-TIMERS.false,
      le-ltb _ _ c.if-wheel-i-lt-SPOKES.false,
      ne_eqb _ _ c.if-r-eq0.false,
      c.bit.ensures,
    ))

pub returns-clause-hung : goal.returns-clause-hung
returns-clause-hung c = start_hung c.args.wheel.now _ c.args.id c.args.n.0 (returns-clause-always c)
