-- `ceiling_for` meets its contract: by its test. Assumes nothing.
use borrow.Author.Tests.{eq-eqb, ne_eqb}
use Rattle.value_effects.specs.Effects.{ceiling_for}
use Rattle.value_effects.proofs.ceiling_for.Goals as goal

pub returns-then-row-t : goal.returns-then-row-t
unfolding ceiling_for
returns-then-row-t c = rw (eq-eqb _ _ c.if-row-t.true)

pub returns : goal.returns
unfolding ceiling_for
returns c = rw (ne_eqb _ _ c.if-row-t.false)
