-- `empty_words` meets its contract. The invariant: the spokes of the timers below i are written. Assumes nothing.
use Prim.Native.Nat.{◌≤◌}
use mathlib.Core.Path.{◌≡◌}
use Rattle.wheel.specs.Inside.{laid}
use Rattle.wheel.proofs.Emptying.{written}
use Rattle.wheel.proofs.empty_words.Given as goal

abbrev pub invariant-loop-i : goal.invariant-loop-i
invariant-loop-i l = (l.i ≤ 32) × (l.words ≡ laid (written l.i))
