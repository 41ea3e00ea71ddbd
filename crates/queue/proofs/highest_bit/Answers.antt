-- `highest_bit` meets its contract: a word that is not 0 has at most 15 leading zeros. Assumes nothing.
use native.Mathlib.Omega.{arith}
use borrow.Author.Rules.{rules}
use borrow.Author.Tests.{eq-eqb, ne_eqb}
use lib.Count.{leading_top}
use Rattle.queue.specs.Words.{highest_bit}
use Rattle.queue.proofs.highest_bit.Goals as goal

pub returns-then-word-eq0 : goal.returns-then-word-eq0
unfolding highest_bit
returns-then-word-eq0 c = rw (eq-eqb _ _ c.if-word-eq0.true)

pub overflow_cast-zeros : goal.overflow_cast-zeros
overflow_cast-zeros c =
    let other = c.if-word-eq0.false in
    let top = leading_top 16 c.args.word (omega arith) c.ranges.word.fits in
    search (rules, top.1)

pub overflow_sub-result : goal.overflow_sub-result
overflow_sub-result c =
    let other = c.if-word-eq0.false in
    let top = leading_top 16 c.args.word (omega arith) c.ranges.word.fits in
    omega (arith, top.1)

pub returns : goal.returns
unfolding highest_bit
returns c = rw (ne_eqb _ _ c.if-word-eq0.false)
