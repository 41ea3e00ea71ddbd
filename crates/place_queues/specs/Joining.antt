-- The scheduler after one thread has joined or left a set of queues.
-- Assumes nothing.
use Rattle.std.specs.Prelude.{ℕ}
use Rattle.queue.specs.declared.Links.{Links}
use Rattle.value_tables.specs.declared.Joined.{Joined}
use Rattle.value_tables.specs.Tables.{with_links, join_model, join_front_model, depart_model, remove_from_model, stand_model, arrive_in_front_model}
use Rattle.value_effects.specs.declared.Scheduler.{Scheduler}
use Rattle.value_effects.specs.Effects.{with_threads}
use Rattle.place_tables.specs.Changes.{with_set, set_numbered}

-- the links of all threads
abbrev pub links_kept : Scheduler → Links
links_kept x = x.threads.links

-- with the links and set n as joining or leaving has made them
abbrev pub with_joined : Scheduler → ℕ → Joined → Scheduler
with_joined x n j = with_set (with_threads x (with_links x.threads j.links)) n j.set

-- thread t has joined the queue of priority p in set n, at the back
abbrev pub joined : Scheduler → ℕ → ℕ → ℕ → Scheduler
joined x n p t = with_joined x n (join_model (links_kept x) (set_numbered x n) p t)

-- the same at the front
abbrev pub joined_in_front : Scheduler → ℕ → ℕ → ℕ → Scheduler
joined_in_front x n p t = with_joined x n (join_front_model (links_kept x) (set_numbered x n) p t)

-- the first of the queue of priority p has left set n
abbrev pub departed : Scheduler → ℕ → ℕ → Scheduler
departed x n p = with_joined x n (depart_model (links_kept x) (set_numbered x n) p)

-- thread t has left the queue of priority p in set n from wherever it stood there
abbrev pub removed : Scheduler → ℕ → ℕ → ℕ → Scheduler
removed x n p t = with_joined x n (remove_from_model (links_kept x) (set_numbered x n) p t)

-- thread t stands elsewhere
abbrev pub stood : Scheduler → ℕ → ℕ → ℕ → Scheduler
stood x t state object = with_threads x (stand_model x.threads t state object)

-- thread t is ready, at the front of the queue of its priority
abbrev pub arrived_in_front : Scheduler → ℕ → Scheduler
arrived_in_front x t = with_threads x (arrive_in_front_model x.threads t)
