-- What the functions on the scheduler make of the values that they are handed: the code's promises cite these.
-- An id is taken modulo the size of its table.
-- Assumes nothing.
use Rattle.std.specs.Prelude.{ℕ, zero, suc, ◌+◌, ◌-◌, ◌%◌, max, Bool, cond, List, [], ◌∷◌, get_or, set, eqb, ltb, leb}
use Rattle.queue.specs.declared.Queues.{Queues}
use Rattle.value_tables.specs.declared.Thread.{Thread}
use Rattle.value_tables.specs.declared.Threads.{Threads}
use Rattle.value_tables.specs.declared.Head.{Head}
use Rattle.value_tables.specs.declared.Waiting.{Waiting}
use Rattle.value_tables.specs.declared.Ran.{Ran}
use Rattle.value_tables.specs.Tables as tables
use Rattle.value_tables.specs.Tables.{head_model, row_of, with_row, lift_model, arrive_model, leave_model_in}
use Rattle.value_effects.specs.declared.Mutex.{Mutex}
use Rattle.value_effects.specs.declared.Scheduler.{Scheduler}
use Rattle.value_effects.specs.declared.Signalled.{Signalled}

-- ---- rows and sets

-- a mutex that is not there
abbrev pub no_mutex : Mutex
no_mutex = record { ceiling = 0; owner = 0; count = 0 }

-- a set that is not there
abbrev pub no_set : Queues
no_set = record { levels = [] }

-- the row of mutex m
abbrev pub mutex_of : Scheduler → ℕ → Mutex
mutex_of x m = get_or x.mutexes (m % 16) no_mutex

-- the scheduler with other threads
abbrev pub with_threads : Scheduler → Threads → Scheduler
with_threads x a = record { threads = a; mutexes = x.mutexes; formutex = x.formutex; ties = x.ties; oncondition = x.oncondition; running = x.running }

-- the scheduler with another row of mutex m
abbrev pub with_mutex : Scheduler → ℕ → Mutex → Scheduler
with_mutex x m r = record { threads = x.threads; mutexes = set x.mutexes (m % 16) r; formutex = x.formutex; ties = x.ties; oncondition = x.oncondition; running = x.running }

-- the scheduler with condition variable c tied to m, 255 for none
abbrev pub with_tie : Scheduler → ℕ → ℕ → Scheduler
with_tie x c m = record { threads = x.threads; mutexes = x.mutexes; formutex = x.formutex; ties = set x.ties (c % 16) m; oncondition = x.oncondition; running = x.running }

-- the set of mutex m, and the threads, after one has come or gone
abbrev pub with_for_mutex : Scheduler → ℕ → Waiting → Scheduler
with_for_mutex x m w = record { threads = w.threads; mutexes = x.mutexes; formutex = set x.formutex (m % 16) w.set; ties = x.ties; oncondition = x.oncondition; running = x.running }

-- the set of condition variable c, and the threads, after one has come or gone
abbrev pub with_on_condition : Scheduler → ℕ → Waiting → Scheduler
with_on_condition x c w = record { threads = w.threads; mutexes = x.mutexes; formutex = x.formutex; ties = x.ties; oncondition = set x.oncondition (c % 16) w.set; running = x.running }

-- who waits for mutex m
abbrev pub for_mutex_of : Scheduler → ℕ → Queues
for_mutex_of x m = get_or x.formutex (m % 16) no_set

-- who waits on condition variable c
abbrev pub on_condition_of : Scheduler → ℕ → Queues
on_condition_of x c = get_or x.oncondition (c % 16) no_set

-- ---- priorities and owners

-- the ceiling of a mutex that thread t owns, or 0
unfoldable pub ceiling_for : Mutex → ℕ → ℕ
ceiling_for m t = cond (eqb m.owner t) m.ceiling 0

-- the largest ceiling of the mutexes that thread t owns, or 0
unfoldable pub highest_in : List Mutex → ℕ → ℕ
highest_in [] t = 0
highest_in (m ∷ ms) t = max (ceiling_for m t) (highest_in ms t)

-- the stored priority of thread t follows from its base and its mutexes
unfoldable pub settle_model : Scheduler → ℕ → Scheduler
settle_model x t = cond (ltb t 32) (with_threads x (lift_model x.threads t (max (get_or x.threads.rows t tables.blank).base (highest_in x.mutexes t)))) x

-- mutex m has owner t and count n, and the priorities of its old and new owner follow
unfoldable pub own_model : Scheduler → ℕ → ℕ → ℕ → Scheduler
own_model x m t n = settle_model (settle_model (with_mutex x m (record { ceiling = (mutex_of x m).ceiling; owner = t; count = n })) (mutex_of x m).owner) t

-- mutex m has count n
unfoldable pub recount_model : Scheduler → ℕ → ℕ → Scheduler
recount_model x m n = with_mutex x m (record { ceiling = (mutex_of x m).ceiling; owner = (mutex_of x m).owner; count = n })

-- ---- arriving

-- thread t waits for mutex m
unfoldable pub wait_for_model : Scheduler → ℕ → ℕ → Scheduler
wait_for_model x t m = with_for_mutex x m (tables.wait_model x.threads (for_mutex_of x m) t 3 m)

-- thread t waits on condition variable c
unfoldable pub wait_on_model : Scheduler → ℕ → ℕ → Scheduler
wait_on_model x t c = with_on_condition x c (tables.wait_model x.threads (on_condition_of x c) t 4 c)

-- thread t is ready
unfoldable pub ready_model : Scheduler → ℕ → Scheduler
ready_model x t = with_threads x (arrive_model x.threads t)

-- thread t is new, of a base, and ready
unfoldable pub create_model : Scheduler → ℕ → ℕ → Scheduler
create_model x t base = ready_model (with_threads x (with_row x.threads t (record { base = base; priority = base; state = 1; object = 255 }))) t

-- ---- the calls

-- mutex m goes to the head of its set
unfoldable pub pass_to_model : Scheduler → ℕ → Head → Scheduler
pass_to_model x m f = ready_model (own_model (with_for_mutex x m (leave_model_in x.threads (for_mutex_of x m) f.priority)) m f.thread 1) f.thread

-- mutex m goes to the head of its set, or is free
unfoldable pub pass_model : Scheduler → ℕ → Scheduler
pass_model x m = cond (leb 16 (head_model (for_mutex_of x m)).priority) (own_model x m 255 0) (pass_to_model x m (head_model (for_mutex_of x m)))

-- the caller takes mutex m: again, from nobody, or it waits
unfoldable pub acquire_model : Scheduler → ℕ → Scheduler
acquire_model x m =
    cond (eqb (mutex_of x m).owner x.running) (recount_model x m ((mutex_of x m).count % 255 + 1))
    (cond (eqb (mutex_of x m).owner 255) (own_model x m x.running 1) (wait_for_model x x.running m))

-- a count above 1 falls by one, else the mutex is passed on
unfoldable pub release_model : Scheduler → ℕ → Scheduler
release_model x m = cond (ltb 1 (mutex_of x m).count) (recount_model x m ((mutex_of x m).count - 1)) (pass_model x m)

-- mutex m is released, then the caller waits on condition variable c, which is tied to m
unfoldable pub wait_model : Scheduler → ℕ → ℕ → Scheduler
wait_model x c m = wait_on_model (with_tie (release_model x m) c m) x.running c

-- thread t, which has left a condition variable tied to m, becomes its owner and is ready, or waits for it
unfoldable pub wake_model : Scheduler → ℕ → ℕ → Scheduler
wake_model x m t = cond (eqb (mutex_of x m).owner 255) (ready_model (own_model x m t 1) t) (wait_for_model x t m)

-- the head of condition variable c leaves
unfoldable pub leave_condition_model : Scheduler → ℕ → Head → Scheduler
leave_condition_model x c f = with_on_condition x c (leave_model_in x.threads (on_condition_of x c) f.priority)

-- the tie of c ends where its set is empty
unfoldable pub untie_model : Scheduler → ℕ → Queues → Scheduler
untie_model x c s = cond (leb 16 (head_model s).priority) (with_tie x c 255) x

-- the head of condition variable c leaves, the tie ends with the last, and the head wakes
unfoldable pub signal_to_model : Scheduler → ℕ → Head → Scheduler
signal_to_model x c f =
    let rest = (leave_model_in x.threads (on_condition_of x c) f.priority).set in
    wake_model (untie_model (leave_condition_model x c f) c rest) (get_or x.ties (c % 16) 0) f.thread

-- the head of condition variable c leaves, if there is one
unfoldable pub signal_model : Scheduler → ℕ → Signalled
signal_model x c =
    cond (leb 16 (head_model (on_condition_of x c)).priority) (record { scheduler = x; left = 0 })
    (record { scheduler = signal_to_model x c (head_model (on_condition_of x c)); left = 1 })

-- signals until none leaves, at most fuel of them, where n have left already
unfoldable pub broadcast_model : ℕ → ℕ → Scheduler → ℕ → Signalled
broadcast_model zero n x c = record { scheduler = x; left = n }
broadcast_model (suc fuel) n x c = cond (eqb (signal_model x c).left 0) (record { scheduler = x; left = n }) (broadcast_model fuel (suc n) (signal_model x c).scheduler c)

-- ---- running

-- the threads and the running thread after a choice
abbrev pub with_ran : Scheduler → Ran → Scheduler
with_ran x r = record { threads = r.threads; mutexes = x.mutexes; formutex = x.formutex; ties = x.ties; oncondition = x.oncondition; running = r.running }

-- the first of the highest ready queue runs
unfoldable pub run_first_model : Scheduler → Scheduler
run_first_model x = with_ran x (tables.run_first_model x.threads x.running)

-- the next thread is chosen
unfoldable pub choose_next_model : Scheduler → Bool → Scheduler
choose_next_model x tick = with_ran x (tables.choose_next_model x.threads x.running tick)

-- mutex m is new
unfoldable pub create_mutex_model : Scheduler → ℕ → ℕ → Scheduler
create_mutex_model x m ceiling = with_mutex x m (record { ceiling = ceiling; owner = 255; count = 0 })

-- the row of thread t
unfoldable pub thread_row_model : Scheduler → ℕ → Thread
thread_row_model x t = row_of x.threads t
