-- Leaving a queue from anywhere: a queue, and each queue of a set, without one thread. No call of document 01 uses it, where only the first leaves.
-- Assumes nothing.
use Rattle.std.specs.Prelude.{ℕ, cond, List, [], ◌∷◌, map, eqb}
use Rattle.rules.specs.Queues.{QueueSet}

-- a queue without thread t; the others keep their order
unfoldable pub without : ℕ → List ℕ → List ℕ
without t [] = []
without t (u ∷ q) = cond (eqb u t) (without t q) (u ∷ without t q)

-- thread t leaves whichever queue of the set it stands in
unfoldable pub thread_leaves : QueueSet → ℕ → QueueSet
thread_leaves qs t = map (without t) qs
