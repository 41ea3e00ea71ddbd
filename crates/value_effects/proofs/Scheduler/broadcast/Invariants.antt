-- `Scheduler::broadcast` is its definition. The invariant: going on from here gives what the whole gives. Assumes nothing.
use Prim.Native.Nat.{◌≤◌}
use mathlib.Core.Path.{◌≡◌}
use Rattle.value_effects.proofs.Broadcasting.{on_from}
use Rattle.value_effects.proofs.Scheduler.broadcast.Given as goal

abbrev pub invariant-loop-left : goal.invariant-loop-left
invariant-loop-left l = (l.left ≤ 32) × (on_from l.left l.scheduler l.c ≡ on_from 0 l.initial.scheduler l.c)
