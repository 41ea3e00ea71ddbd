-- A change of one row, one link or one queue of the scheduler, and reading them.
-- Assumes nothing.
use Rattle.std.specs.Prelude.{ℕ, ◌-◌, ◌%◌, cond, get_or, set, eqb, ltb}
use Rattle.queue.specs.declared.Queue.{Queue}
use Rattle.queue.specs.declared.Queues.{Queues}
use Rattle.queue.specs.Linking.{level_model, with_level_model}
use Rattle.value_tables.specs.declared.Thread.{Thread}
use Rattle.value_tables.specs.Tables.{with_row}
use Rattle.value_effects.specs.declared.Scheduler.{Scheduler}
use Rattle.value_effects.specs.Effects.{with_threads, no_set}

-- with another running thread
abbrev pub with_running : Scheduler → ℕ → Scheduler
with_running x t = record { threads = x.threads; mutexes = x.mutexes; formutex = x.formutex; ties = x.ties; oncondition = x.oncondition; running = t }

-- with another row of thread t
abbrev pub with_thread : Scheduler → ℕ → Thread → Scheduler
with_thread x t row = with_threads x (with_row x.threads t row)

-- the link of thread t
abbrev pub link_of : Scheduler → ℕ → ℕ
link_of x t = get_or x.threads.links.next (t % 32) 0

-- with another link of thread t
abbrev pub with_link : Scheduler → ℕ → ℕ → Scheduler
with_link x t next =
    with_threads x (record { rows = x.threads.rows; links = record { next = set x.threads.links.next (t % 32) next }; ready = x.threads.ready })

-- the mutex that condition variable c is tied to, 255 for none
abbrev pub tie_of : Scheduler → ℕ → ℕ
tie_of x c = get_or x.ties (c % 16) 0

-- set n: the ready queues, then that of each mutex, then that of each condition variable
unfoldable pub set_numbered : Scheduler → ℕ → Queues
set_numbered x n = cond (eqb n 0) x.threads.ready (cond (ltb n 17) (get_or x.formutex (n - 1) no_set) (get_or x.oncondition (n - 17) no_set))

-- with another set n
unfoldable pub with_set : Scheduler → ℕ → Queues → Scheduler
with_set x n s =
    cond (eqb n 0) (with_threads x (record { rows = x.threads.rows; links = x.threads.links; ready = s }))
    (cond (ltb n 17)
    (record { threads = x.threads; mutexes = x.mutexes; formutex = set x.formutex (n - 1) s; ties = x.ties; oncondition = x.oncondition; running = x.running })
    (record { threads = x.threads; mutexes = x.mutexes; formutex = x.formutex; ties = x.ties; oncondition = set x.oncondition (n - 17) s; running = x.running }))

-- the queue of priority p in set n
abbrev pub queue_numbered : Scheduler → ℕ → ℕ → Queue
queue_numbered x n p = level_model (set_numbered x n) p

-- with another queue of priority p in set n
abbrev pub with_queue : Scheduler → ℕ → ℕ → Queue → Scheduler
with_queue x n p q = with_set x n (with_level_model (set_numbered x n) p q)
