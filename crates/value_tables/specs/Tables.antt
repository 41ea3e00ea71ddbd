-- What the functions on sets of queues and on the threads make of the values that they are handed: the code's promises cite these.
-- An id is taken modulo 32; a thread of 32 or more joins no queue.
-- Assumes nothing.
use Rattle.std.specs.Prelude.{ℕ, ◌%◌, Bool, cond, ◌&&◌, get_or, set, eqb, ltb, leb}
use Rattle.queue.specs.declared.Links.{Links}
use Rattle.queue.specs.declared.Linked.{Linked}
use Rattle.queue.specs.declared.Queues.{Queues}
use Rattle.queue.specs.Linking.{back_model, front_model, leave_model, remove_model, level_model, with_level_model, highest_model}
use Rattle.value_tables.specs.declared.Joined.{Joined}
use Rattle.value_tables.specs.declared.Head.{Head}
use Rattle.value_tables.specs.declared.Thread.{Thread}
use Rattle.value_tables.specs.declared.Threads.{Threads}
use Rattle.value_tables.specs.declared.Ran.{Ran}
use Rattle.value_tables.specs.declared.Waiting.{Waiting}

-- the set with the queue of priority p put back, and the links
abbrev pub joined : Queues → ℕ → Linked → Joined
joined s p l = record { links = l.links; set = with_level_model s p l.queue }

-- thread t arrives at the back of the queue of priority p
unfoldable pub join_model : Links → Queues → ℕ → ℕ → Joined
join_model k s p t = joined s p (back_model k (level_model s p) t)

-- at the front
unfoldable pub join_front_model : Links → Queues → ℕ → ℕ → Joined
join_front_model k s p t = joined s p (front_model k (level_model s p) t)

-- the first of the queue of priority p leaves
unfoldable pub depart_model : Links → Queues → ℕ → Joined
depart_model k s p = joined s p (leave_model k (level_model s p))

-- thread t leaves the queue of priority p from wherever it stands there
unfoldable pub remove_from_model : Links → Queues → ℕ → ℕ → Joined
remove_from_model k s p t = joined s p (remove_model k (level_model s p) t)

-- the first of the highest non-empty queue, with its priority
unfoldable pub head_model : Queues → Head
head_model s = record { priority = highest_model s; thread = (level_model s (highest_model s)).first }

-- a row that is not there
abbrev pub blank : Thread
blank = record { base = 0; priority = 0; state = 0; object = 0 }

-- the row of thread t
abbrev pub row_of : Threads → ℕ → Thread
row_of x t = get_or x.rows (t % 32) blank

-- with another row of thread t
abbrev pub with_row : Threads → ℕ → Thread → Threads
with_row x t r = record { rows = set x.rows (t % 32) r; links = x.links; ready = x.ready }

-- thread t stands elsewhere
unfoldable pub stand_model : Threads → ℕ → ℕ → ℕ → Threads
stand_model x t state object = with_row x t (record { base = (row_of x t).base; priority = (row_of x t).priority; state = state; object = object })

-- thread t has another priority
unfoldable pub lift_model : Threads → ℕ → ℕ → Threads
lift_model x t priority = with_row x t (record { base = (row_of x t).base; priority = priority; state = (row_of x t).state; object = (row_of x t).object })

-- the links and the ready queues after one has joined or left
abbrev pub with_ready : Threads → Joined → Threads
with_ready x j = record { rows = x.rows; links = j.links; ready = j.set }

-- thread t is ready, at the back of the queue of its priority
unfoldable pub arrive_model : Threads → ℕ → Threads
arrive_model x t = stand_model (with_ready x (join_model x.links x.ready (row_of x t).priority t)) t 1 255

-- at the front
unfoldable pub arrive_in_front_model : Threads → ℕ → Threads
arrive_in_front_model x t = stand_model (with_ready x (join_front_model x.links x.ready (row_of x t).priority t)) t 1 255

-- the threads with other links
abbrev pub with_links : Threads → Links → Threads
with_links x k = record { rows = x.rows; links = k; ready = x.ready }

-- thread t waits in a set, at the back of the queue of its priority
unfoldable pub wait_model : Threads → Queues → ℕ → ℕ → ℕ → Waiting
wait_model x s t state object =
    let j = join_model x.links s (row_of x t).priority t in
    record { threads = stand_model (with_links x j.links) t state object; set = j.set }

-- the first of the queue of priority p leaves a set
unfoldable pub leave_model_in : Threads → Queues → ℕ → Waiting
leave_model_in x s p =
    let j = depart_model x.links s p in
    record { threads = with_links x j.links; set = j.set }

-- thread t leaves the queue of priority p in a set from wherever it stands there
unfoldable pub remove_model_in : Threads → Queues → ℕ → ℕ → Waiting
remove_model_in x s p t =
    let j = remove_from_model x.links s p t in
    record { threads = with_links x j.links; set = j.set }

-- the threads, and which one runs
abbrev pub ran : Threads → ℕ → Ran
ran x t = record { threads = x; running = t }

-- the head of the ready queues leaves and runs
unfoldable pub run_model : Threads → Head → Ran
run_model x f = ran (stand_model (with_ready x (depart_model x.links x.ready f.priority)) f.thread 2 255) f.thread

-- the first of the highest ready queue runs, if there is one
unfoldable pub run_first_model : Threads → ℕ → Ran
run_first_model x running = cond (leb 16 (head_model x.ready).priority) (ran x running) (run_model x (head_model x.ready))

-- the next thread is chosen, as after each accepted call
unfoldable pub choose_next_model : Threads → ℕ → Bool → Ran
choose_next_model x running at_tick =
    let own = (row_of x running).priority in
    let best = (head_model x.ready).priority in
    cond (leb 3 (row_of x running).state) (run_first_model x running)
    (cond (leb 16 best) (ran x running)
    (cond (ltb own best) (run_first_model (arrive_in_front_model x running) running)
    (cond (at_tick && eqb own best) (run_first_model (arrive_model x running) running) (ran x running))))
