-- The scheduler with one whole table replaced, and the number of a set of queues by its kind.
-- Assumes nothing.
use Rattle.std.specs.Prelude.{ℕ, ◌+◌, ◌*◌, ◌%◌, cond, List, eqb}
use Rattle.queue.specs.declared.Queue.{Queue}
use Rattle.queue.specs.declared.Queues.{Queues}
use Rattle.value_tables.specs.declared.Thread.{Thread}
use Rattle.value_effects.specs.declared.Mutex.{Mutex}
use Rattle.value_effects.specs.declared.Scheduler.{Scheduler}
use Rattle.value_effects.specs.Effects.{with_threads}
use Rattle.place_tables.specs.Changes.{with_set}

-- the number of the first set of a kind: kind 0 has those of the 16 mutexes, kind 1 those of the 16 condition variables
abbrev pub first_set : ℕ → ℕ
first_set kind = 1 + kind % 2 * 16

-- with other rows of the threads
abbrev pub with_rows : Scheduler → List Thread → Scheduler
with_rows x rows = with_threads x (record { rows = rows; links = x.threads.links; ready = x.threads.ready })

-- with other links
abbrev pub with_next : Scheduler → List ℕ → Scheduler
with_next x next = with_threads x (record { rows = x.threads.rows; links = record { next = next }; ready = x.threads.ready })

-- with other queues in set n
abbrev pub with_levels : Scheduler → ℕ → List Queue → Scheduler
with_levels x n levels = with_set x n (record { levels = levels })

-- with other sets of a kind
unfoldable pub with_sets : Scheduler → ℕ → List Queues → Scheduler
with_sets x kind sets =
    cond (eqb (kind % 2) 0)
    (record { threads = x.threads; mutexes = x.mutexes; formutex = sets; ties = x.ties; oncondition = x.oncondition; running = x.running })
    (record { threads = x.threads; mutexes = x.mutexes; formutex = x.formutex; ties = x.ties; oncondition = sets; running = x.running })

-- with other rows of the mutexes
abbrev pub with_mutexes : Scheduler → List Mutex → Scheduler
with_mutexes x rows = record { threads = x.threads; mutexes = rows; formutex = x.formutex; ties = x.ties; oncondition = x.oncondition; running = x.running }

-- with other ties
abbrev pub with_ties : Scheduler → List ℕ → Scheduler
with_ties x ties = record { threads = x.threads; mutexes = x.mutexes; formutex = x.formutex; ties = ties; oncondition = x.oncondition; running = x.running }
