-- `owned_one` meets its contract, each return by the tests that led there. Assumes nothing.
use borrow.Author.Tests.{eq-eqb, ne_eqb}
use Rattle.refusals.specs.Verdicts.{owned_one}
use Rattle.refusals.proofs.owned_one.Goals as goal

pub returns-then-row-t : goal.returns-then-row-t
unfolding owned_one
returns-then-row-t c = rw (eq-eqb _ _ c.if-row-t.true)

pub returns : goal.returns
unfolding owned_one
returns c = rw (ne_eqb _ _ c.if-row-t.false)
