-- `wheel::bit` meets its contract: a shift within the word loses nothing. Assumes nothing.
use native.Mathlib.Omega.{arith}
use borrow.Author.Tests.{le-leb, lt-leb}
use lib.Pow.{shl_exact}
use Rattle.wheel.specs.Inside.{bit_of}
use Rattle.wheel.proofs.bit.Goals as goal

pub returns-then-id-ge-TIMERS : goal.returns-then-id-ge-TIMERS
unfolding bit_of
returns-then-id-ge-TIMERS c = rw (le-leb _ _ c.if-id-ge-TIMERS.true)

pub returns : goal.returns
unfolding bit_of
returns c =
    rw (lt-leb _ _ c.if-id-ge-TIMERS.false, shl_exact {a = 1} 1 c.args.id 32 (omega arith) (omega arith)) (omega arith)
