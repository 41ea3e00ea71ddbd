-- `highest_at` is the plain search. The invariant: the search below p gives what the whole search gives.
-- Assumes nothing.
use Prim.Native.Nat.{ℕ, ◌%◌}
use mathlib.Core.List.{List}
use mathlib.Core.Path.{◌≡◌}
use Rattle.queue.specs.declared.Queues.{Queues}
use Rattle.queue.specs.Linking.{has_first, highest_below, highest_model}
use Rattle.place_tables.specs.Cells.{scheduler_in}
use Rattle.place_tables.specs.Changes.{set_numbered}
use Rattle.place_tables.proofs.highest_at.Given as goal

-- the set that is searched
abbrev pub searched : List ℕ → ℕ → Queues
searched k n = set_numbered (scheduler_in k) (n % 33)

abbrev pub invariant-loop-p : goal.invariant-loop-p
invariant-loop-p l = highest_model (searched l.cells l.n) ≡ highest_below (has_first (searched l.cells l.n)) 16 l.p
