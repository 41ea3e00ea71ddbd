-- A set of queues: one queue of thread ids for each of the 16 priorities. The ready threads have one such set, and so has each mutex and each
-- condition variable.
-- Assumes nothing.
use Rattle.std.specs.Prelude.{ℕ, zero, suc, get_or, set, replicate}
use mathlib.Core.List.{List, [], ◌∷◌, ◌++◌, tail}

-- one queue for each priority, the earliest first
abbrev pub QueueSet : Type 0
QueueSet = List (List ℕ)

-- nobody in any queue
unfoldable pub empty_set : QueueSet
empty_set = replicate 16 []

-- the queue of priority p
abbrev pub queue : QueueSet → ℕ → List ℕ
queue qs p = get_or qs p []

-- thread t arrives at the back of the queue of priority p
unfoldable pub to_back : QueueSet → ℕ → ℕ → QueueSet
to_back qs p t = set qs p (queue qs p ++ (t ∷ []))

-- thread t arrives at the front of the queue of priority p
unfoldable pub to_front : QueueSet → ℕ → ℕ → QueueSet
to_front qs p t = set qs p (t ∷ queue qs p)

-- the first of the queue of priority p leaves
unfoldable pub first_leaves : QueueSet → ℕ → QueueSet
first_leaves qs p = set qs p (tail (queue qs p))

-- who is first in a set: nobody, or somebody with a priority and an id
pub data First : Type 0 where
  nobody : First
  somebody : ℕ → ℕ → First

-- the first of a queue of priority p, or else another
abbrev pub first_or : List ℕ → ℕ → First → First
first_or [] p other = other
first_or (t ∷ q) p other = somebody p t

-- the first of the highest non-empty queue among those of priorities below n
unfoldable pub first_below : ℕ → QueueSet → First
first_below zero qs = nobody
first_below (suc p) qs = first_or (queue qs p) p (first_below p qs)

-- the first of the highest non-empty queue
abbrev pub first : QueueSet → First
first qs = first_below 16 qs
