-- `ticks_fit` meets its contract: each return by the tests that led there. Assumes nothing.
use native.Mathlib.Omega.{arith}
use Rattle.sound_objects.proofs.Timing.{no_length, none_left, left_once, left_again}
use Rattle.sound_objects.proofs.ticks_fit.Goals as goal

pub returns-then-n-lt1 : goal.returns-then-n-lt1
returns-then-n-lt1 c = no_length _ _ _ c.if-n-lt1.true

pub returns-then-left-lt1 : goal.returns-then-left-lt1
returns-then-left-lt1 c = none_left _ _ _ c.if-left-lt1.true

pub returns-then-once : goal.returns-then-once
returns-then-once c =
    left_once _ _ _ c.if-once.true c.if-n-lt1.false (omega arith) c.if-left-lt1.false (omega arith)

pub returns : goal.returns
returns c =
    left_again _ _ _ c.if-once.false c.if-n-lt1.false (omega arith) c.if-left-lt1.false (omega arith)
