-- How the scheduler stands in one array of 1,281 bytes: the threads' rows, 4 bytes each, from 0 on; their links from 128 on; 33 sets of queues, 32 bytes
-- each, from 160 on (the ready queues, then one for each mutex, then one for each condition variable); the mutexes' rows, 3 bytes each, from 1216 on; the
-- ties from 1264 on; and the running thread at 1280.
-- Assumes nothing.
use Rattle.std.specs.Prelude.{ℕ, ◌+◌, ◌*◌, List, get_or}
use Rattle.laws.specs.Lists.{tabulate}
use Rattle.queue.specs.declared.Queue.{Queue}
use Rattle.queue.specs.declared.Queues.{Queues}
use Rattle.value_tables.specs.declared.Thread.{Thread}
use Rattle.value_effects.specs.declared.Mutex.{Mutex}
use Rattle.value_effects.specs.declared.Scheduler.{Scheduler}

-- the byte at a place
abbrev pub cell : List ℕ → ℕ → ℕ
cell k i = get_or k i 0

-- the row of thread t
abbrev pub thread_in : List ℕ → ℕ → Thread
thread_in k t = record { base = cell k (t * 4); priority = cell k (t * 4 + 1); state = cell k (t * 4 + 2); object = cell k (t * 4 + 3) }

-- the link of thread t
abbrev pub link_in : List ℕ → ℕ → ℕ
link_in k t = cell k (128 + t)

-- the queue of priority p in set n
abbrev pub queue_in : List ℕ → ℕ → ℕ → Queue
queue_in k n p = record { first = cell k (160 + n * 32 + p * 2); last = cell k (160 + n * 32 + p * 2 + 1) }

-- set n
abbrev pub set_in : List ℕ → ℕ → Queues
set_in k n = record { levels = tabulate 16 (queue_in k n) }

-- the row of mutex m
abbrev pub mutex_in : List ℕ → ℕ → Mutex
mutex_in k m = record { ceiling = cell k (1216 + m * 3); owner = cell k (1216 + m * 3 + 1); count = cell k (1216 + m * 3 + 2) }

-- the mutex that condition variable c is tied to
abbrev pub tie_in : List ℕ → ℕ → ℕ
tie_in k c = cell k (1264 + c)

-- the whole scheduler
unfoldable pub scheduler_in : List ℕ → Scheduler
scheduler_in k = record {
  threads = record { rows = tabulate 32 (thread_in k); links = record { next = tabulate 32 (link_in k) }; ready = set_in k 0 };
  mutexes = tabulate 16 (mutex_in k);
  formutex = tabulate 16 (λ m. set_in k (1 + m));
  ties = tabulate 16 (tie_in k);
  oncondition = tabulate 16 (λ c. set_in k (17 + c));
  running = cell k 1280;
}
