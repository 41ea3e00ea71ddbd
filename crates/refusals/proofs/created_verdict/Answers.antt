-- `created_verdict` meets its contract, each return by the tests that led there. Assumes nothing.
use borrow.Author.Tests.{le-leb, le-ltb, lt-leb, lt-ltb}
use Rattle.refusals.specs.Verdicts.{created_verdict}
use Rattle.refusals.proofs.created_verdict.Goals as goal

pub returns-then-value-lt1 : goal.returns-then-value-lt1
unfolding created_verdict
returns-then-value-lt1 c = rw (lt-ltb _ _ c.if-value-lt1.true)

pub returns-then-value-gt-HIGHEST : goal.returns-then-value-gt-HIGHEST
unfolding created_verdict
returns-then-value-gt-HIGHEST c = rw (le-ltb _ _ c.if-value-lt1.false, lt-ltb _ _ c.if-value-gt-HIGHEST.true)

pub returns-then-limit-count : goal.returns-then-limit-count
unfolding created_verdict
returns-then-limit-count c =
    rw (le-ltb _ _ c.if-value-lt1.false, le-ltb _ _ c.if-value-gt-HIGHEST.false, le-leb _ _ c.if-limit-count.true)

pub returns : goal.returns
unfolding created_verdict
returns c =
    rw (le-ltb _ _ c.if-value-lt1.false, le-ltb _ _ c.if-value-gt-HIGHEST.false, lt-leb _ _ c.if-limit-count.false)
