-- The one scheduler of the code that describes a scheduler of the definition: every row, link, end of a queue and stored priority follows from it,
-- to the last unused slot.
-- Assumes nothing.
use Rattle.std.specs.Prelude.{ℕ}
use mathlib.Core.List.{List, ◌∷◌, ◌++◌, flatten}
use Rattle.laws.specs.Lists.{tabulate}
use Rattle.queue.specs.Stands.{links_of, queues_of}
use Rattle.value_tables.specs.declared.Thread as tables
use Rattle.value_tables.specs.declared.Threads.{Threads}
use Rattle.value_effects.specs.declared.Mutex as scheduler
use Rattle.value_effects.specs.declared.Scheduler as scheduled
use Rattle.rules.specs.Queues.{QueueSet}
use Rattle.rules.specs.State.{for_mutex, on_condition, Rows, Sets, Scheduler, thread, mutex, tied, priority, set_at}
use Rattle.rules.specs.Page.{state_code, object_code}

-- all sets of queues side by side: of the ready threads, of each mutex, of each condition variable
unfoldable pub all_sets : Sets → List QueueSet
all_sets s = s.ready ∷ (s.mutex ++ s.condition)

-- the row of thread t
abbrev pub thread_in : Rows → ℕ → tables.Thread
thread_in k t =
    record { base = (thread k t).base; priority = priority k t; state = state_code (thread k t).stands; object = object_code (thread k t).stands }

-- the threads, the links of all queues, and the ready queues
unfoldable pub threads_of : Rows → Sets → Threads
threads_of k s = record { rows = tabulate 32 (thread_in k); links = links_of (flatten (all_sets s)); ready = queues_of s.ready }

-- the row of mutex m
abbrev pub mutex_in : Rows → ℕ → scheduler.Mutex
mutex_in k m = record { ceiling = (mutex k m).ceiling; owner = (mutex k m).owner; count = (mutex k m).count }

-- the scheduler that describes h
unfoldable pub scheduler_of : Scheduler → scheduled.Scheduler
scheduler_of h = record {
  threads = threads_of h.rows h.sets;
  mutexes = tabulate 16 (mutex_in h.rows);
  formutex = tabulate 16 (λ m. queues_of (set_at h.sets (for_mutex m)));
  ties = tabulate 16 (tied h.rows);
  oncondition = tabulate 16 (λ c. queues_of (set_at h.sets (on_condition c)));
  running = h.rows.runner;
}
