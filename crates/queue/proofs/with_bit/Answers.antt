-- `with_bit` meets its contract: what a word has besides a bit, with that bit or without it. Assumes nothing.
use Rattle.std.proofs.Common.{◌≡◌, ℕ, ◌*◌, ◌%◌, ◌^◌, ◌<◌, arith}
use borrow.Author.Tests.{le-ltb}
use lib.Pow.{pow-lt}
use Rattle.queue.specs.Words.{with_bit}
use Rattle.queue.proofs.Words.{bit_set, bit_cleared}
use Rattle.queue.proofs.with_bit.Goals as goal

-- the shifted bit does not wrap
shifted : (p : ℕ) → p < 16 → (1 * 2 ^ p) % 65536 ≡ 2 ^ p
shifted p low = let small : 2 ^ p < 2 ^ 16 = pow-lt low in omega arith

pub returns-then-p-ge-PRIORITIES : goal.returns-then-p-ge-PRIORITIES
unfolding with_bit
returns-then-p-ge-PRIORITIES c = rw (le-ltb _ _ c.if-p-ge-PRIORITIES.true)

pub returns-then-occupied : goal.returns-then-occupied
returns-then-occupied c =
    rw (c.if-occupied.true, shifted c.args.p c.if-p-ge-PRIORITIES.false) (bit_set c.args.word c.args.p c.ranges.word.fits c.if-p-ge-PRIORITIES.false)

pub returns : goal.returns
returns c =
    rw (c.if-occupied.false, shifted c.args.p c.if-p-ge-PRIORITIES.false) (bit_cleared c.args.word c.args.p c.ranges.word.fits c.if-p-ge-PRIORITIES.false)
