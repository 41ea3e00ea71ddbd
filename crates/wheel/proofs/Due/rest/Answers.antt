-- `wheel::Due::rest` meets its contract: the lowest bit is taken off. Assumes nothing.
use native.Mathlib.Omega.{arith}
use borrow.Author.Tests.{eq-eqb, ne_eqb}
use Rattle.wheel.specs.Inside.{lowest_off}
use Rattle.wheel.proofs.Laws.{rest_always, rest_listed}
use Rattle.wheel.proofs.Due.rest.Goals as goal

pub returns-then-w-eq0-clause-always : goal.returns-then-w-eq0-clause-always
unfolding lowest_off
returns-then-w-eq0-clause-always c = rest_always c.args.self _ (rw (eq-eqb _ _ c.if-w-eq0.true))

pub returns-then-w-eq0-clause-ids : goal.returns-then-w-eq0-clause-ids
returns-then-w-eq0-clause-ids c = rest_listed c.args.self _ (omega arith) (returns-then-w-eq0-clause-always c)

pub returns-clause-always : goal.returns-clause-always
unfolding lowest_off
returns-clause-always c = rest_always c.args.self _ (rw (ne_eqb _ _ c.if-w-eq0.false))

pub returns-clause-ids : goal.returns-clause-ids
returns-clause-ids c = rest_listed c.args.self _ (omega arith) (returns-clause-always c)
