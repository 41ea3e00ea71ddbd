-- `place_of` meets its contract: by the test on the state, and each call by its own. Assumes nothing.
use borrow.Author.Tests.{eq-eqb, ne_eqb}
use Rattle.page_describing.specs.Describing.{place_model}
use Rattle.page_describing.proofs.Numbers.{set_numbered_lem}
use Rattle.page_describing.proofs.place_of.Goals as goal

pub returns-then-row-eq-RUNNING : goal.returns-then-row-eq-RUNNING
unfolding place_model
returns-then-row-eq-RUNNING c = rw (eq-eqb _ _ c.if-row-eq-RUNNING.true)

pub returns : goal.returns
unfolding place_model
returns c =
    rw (ne_eqb _ _ c.if-row-eq-RUNNING.false, c.ahead_of.ensures, c.queue_at-queue.ensures, c.set_of-set.ensures, set_numbered_lem _ _)
