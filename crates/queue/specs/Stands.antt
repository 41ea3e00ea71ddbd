-- What links and queues stand for: a list of threads for each slot, however many slots there are.
-- Assumes nothing.
use Rattle.std.specs.Prelude.{ℕ, ◌≤◌, ◌<◌, ◌≡◌, ◌⊎◌, Bool, true, false, cond, set, eqb}
use mathlib.Core.List.{List, [], ◌∷◌, map, flatten}
use Rattle.laws.specs.Lists.{tabulate}
use Rattle.laws.specs.Counting.{at, first_or, last_or, occupied, counts}
use Rattle.queue.specs.Linking.{highest_below}
use Rattle.queue.specs.declared.Queue.{Queue}
use Rattle.queue.specs.declared.Links.{Links}
use Rattle.queue.specs.declared.Linked.{Linked}
use Rattle.queue.specs.declared.Queues.{Queues}

-- each thread stands at most once in all lists, and none of 32 or more stands anywhere
pub record Fresh (ls : List (List ℕ)) : Type 0 where
  pub once : (u : ℕ) → counts u ls ≤ 1
  pub low : (u : ℕ) → 32 ≤ u → counts u ls ≡ 0

-- the two ends of a list, 255 and 255 of the empty one
unfoldable pub ends_of : List ℕ → Queue
ends_of l = record { first = first_or 255 l; last = last_or 255 l }

-- what follows t in a list, 255 if t is its last, and d if t does not stand there
abbrev pub after : ℕ → List ℕ → ℕ → ℕ
after t [] d = d
after t (x ∷ xs) d = cond (eqb t x) (first_or 255 xs) (after t xs d)

-- the link of t: what follows it in its list, 255 if it is the last there or stands in none
abbrev pub link_of : ℕ → List (List ℕ) → ℕ
link_of t [] = 255
link_of t (l ∷ ls) = after t l (link_of t ls)

-- the links of all threads
unfoldable pub links_of : List (List ℕ) → Links
links_of ls = record { next = tabulate 32 (λ t. link_of t ls) }

-- links and a queue for each slot stand for fresh lists
pub record Represents (k : Links) (qs : List Queue) (ls : List (List ℕ)) : Type 0 where
  pub fresh : Fresh ls
  pub links : k ≡ links_of ls
  pub queues : qs ≡ map ends_of ls

-- the links and the queue at slot s once the list l stands there
abbrev pub linked_of : List (List ℕ) → ℕ → List ℕ → Linked
linked_of ls s l = record { links = links_of (set ls s l); queue = ends_of l }

-- the same for sets of queues side by side, at the queue of priority p of set i
abbrev pub linked_in : List (List (List ℕ)) → ℕ → ℕ → List ℕ → Linked
linked_in xss i p l = record { links = links_of (flatten (set xss i (set (at xss i) p l))); queue = ends_of l }

-- the queues of one set, a list for each priority
unfoldable pub queues_of : List (List ℕ) → Queues
queues_of qs = record { levels = map ends_of qs }

-- the highest priority whose list is not empty, or 16
unfoldable pub highest_list : List (List ℕ) → ℕ
highest_list qs = highest_below (λ p. occupied (at qs p)) 16 16

-- what any search for the highest has to show of its result r: the test holds there and not above, or nowhere, and r is none
abbrev pub IsHighest : (ℕ → Bool) → ℕ → ℕ → ℕ → Type 0
IsHighest holds none n r =
    ((r < n) × (holds r ≡ true) × ((u : ℕ) → r < u → u < n → holds u ≡ false)) ⊎ ((r ≡ none) × ((u : ℕ) → u < n → holds u ≡ false))
