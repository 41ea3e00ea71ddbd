-- `Queues::highest` is the plain search. The invariant: the search below the priorities passed gives what the whole search gives. Assumes nothing.
use Prim.Native.Nat.{◌≤◌, ◌-◌}
use mathlib.Core.Path.{◌≡◌}
use Rattle.queue.specs.Linking.{has_first, highest_below, highest_model}
use Rattle.queue.proofs.Queues.highest.Given as goal

abbrev pub invariant-loop-passed : goal.invariant-loop-passed
invariant-loop-passed l = (l.passed ≤ 16) × (highest_model l.self ≡ highest_below (has_first l.self) 16 (16 - l.passed))
