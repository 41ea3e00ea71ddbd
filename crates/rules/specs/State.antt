-- The state of the kernel: what the scheduler keeps (threads, mutexes, ties and the queues), the tick count and the timers.
-- An id of 255 stands for none.
-- Assumes nothing.
use Rattle.std.specs.Prelude.{ℕ, ◌+◌, max, Bool, true, false, cond, List, [], ◌∷◌, get_or, set, eqb}
use Rattle.rules.specs.Queues.{QueueSet, First, empty_set, to_back, to_front, first_leaves, first}

-- where a thread stands: in exactly one of these
pub data Where : Type 0 where
  running ready : Where
  for_mutex on_condition : ℕ → Where

-- whether two places are the same
unfoldable pub same : Where → Where → Bool
same running running = true
same running ready = false
same running (for_mutex n) = false
same running (on_condition d) = false
same ready running = false
same ready ready = true
same ready (for_mutex n) = false
same ready (on_condition d) = false
same (for_mutex m) running = false
same (for_mutex m) ready = false
same (for_mutex m) (for_mutex n) = eqb m n
same (for_mutex m) (on_condition d) = false
same (on_condition c) running = false
same (on_condition c) ready = false
same (on_condition c) (for_mutex n) = false
same (on_condition c) (on_condition d) = eqb c d

-- whether it is a place of waiting
abbrev pub waits : Where → Bool
waits running = false
waits ready = false
waits (for_mutex m) = true
waits (on_condition c) = true

-- a thread: its base priority and where it stands
pub record Thread : Type 0 where
  pub base : ℕ
  pub stands : Where

-- a mutex: its ceiling, its owner, 255 for none, and its count
pub record Mutex : Type 0 where
  pub ceiling : ℕ
  pub owner : ℕ
  pub count : ℕ

-- what a timer does: it is stopped, or goes as a one-shot or a periodic one
pub data TimerState : Type 0 where
  stopped one_shot periodic : TimerState

-- a timer: its state, its condition variable, n, which is its length or a periodic one's repeat, and its ticks left
pub record Timer : Type 0 where
  pub state : TimerState
  pub condition : ℕ
  pub length : ℕ
  pub left : ℕ

-- the rows: whether started, the running thread, the threads, the mutexes, and the mutex that each condition variable is tied to
pub record Rows : Type 0 where
  pub started : Bool
  pub runner : ℕ
  pub threads : List Thread
  pub mutexes : List Mutex
  pub ties : List ℕ

-- the sets of queues: of the ready threads, of each mutex and of each condition variable
pub record Sets : Type 0 where
  pub ready : QueueSet
  pub mutex : List QueueSet
  pub condition : List QueueSet

-- the rows and their queues
pub record Scheduler : Type 0 where
  pub rows : Rows
  pub sets : Sets

-- the whole state
pub record State : Type 0 where
  pub scheduler : Scheduler
  pub count : ℕ
  pub timers : List Timer

-- ---- what stands at an id; outside a table a row that is never used

-- outside the tables
abbrev pub no_thread : Thread
no_thread = record { base = 0; stands = running }

-- outside the table
abbrev pub no_mutex : Mutex
no_mutex = record { ceiling = 0; owner = 255; count = 0 }

-- a stopped timer
abbrev pub stopped_timer : Timer
stopped_timer = record { state = stopped; condition = 255; length = 0; left = 0 }

-- the row of thread t
abbrev pub thread : Rows → ℕ → Thread
thread k t = get_or k.threads t no_thread

-- of mutex m
abbrev pub mutex : Rows → ℕ → Mutex
mutex k m = get_or k.mutexes m no_mutex

-- the mutex that condition variable c is tied to
abbrev pub tied : Rows → ℕ → ℕ
tied k c = get_or k.ties c 255

-- timer i
abbrev pub timer : List Timer → ℕ → Timer
timer ts i = get_or ts i stopped_timer

-- whether thread t stands at w
unfoldable pub at : Rows → Where → ℕ → Bool
at k w t = same (thread k t).stands w

-- ---- priority

-- the largest ceiling of the mutexes that thread t owns, or 0
unfoldable pub highest_ceiling : List Mutex → ℕ → ℕ
highest_ceiling [] t = 0
highest_ceiling (m ∷ ms) t = max (cond (eqb m.owner t) m.ceiling 0) (highest_ceiling ms t)

-- the largest of its base priority and the ceilings of the mutexes it owns
unfoldable pub priority : Rows → ℕ → ℕ
priority k t = max (thread k t).base (highest_ceiling k.mutexes t)

-- how many mutexes thread t owns
unfoldable pub owned : List Mutex → ℕ → ℕ
owned [] t = 0
owned (m ∷ ms) t = cond (eqb m.owner t) 1 0 + owned ms t

-- ---- rows with one thing changed

-- the rows with other threads
abbrev pub with_threads : Rows → List Thread → Rows
with_threads k x = record { started = k.started; runner = k.runner; threads = x; mutexes = k.mutexes; ties = k.ties }

-- with other mutexes
abbrev pub with_mutexes : Rows → List Mutex → Rows
with_mutexes k x = record { started = k.started; runner = k.runner; threads = k.threads; mutexes = x; ties = k.ties }

-- with other ties
abbrev pub with_ties : Rows → List ℕ → Rows
with_ties k x = record { started = k.started; runner = k.runner; threads = k.threads; mutexes = k.mutexes; ties = x }

-- with another running thread
abbrev pub with_runner : Rows → ℕ → Rows
with_runner k x = record { started = k.started; runner = x; threads = k.threads; mutexes = k.mutexes; ties = k.ties }

-- started
abbrev pub with_started : Rows → Rows
with_started k = record { started = true; runner = k.runner; threads = k.threads; mutexes = k.mutexes; ties = k.ties }

-- the scheduler with other rows
abbrev pub with_rows : Scheduler → Rows → Scheduler
with_rows h k = record { rows = k; sets = h.sets }

-- thread t stands at w
unfoldable pub stand : Rows → ℕ → Where → Rows
stand k t w = with_threads k (set k.threads t (record { base = (thread k t).base; stands = w }))

-- mutex m has owner t and count n
unfoldable pub own : Rows → ℕ → ℕ → ℕ → Rows
own k m t n = with_mutexes k (set k.mutexes m (record { ceiling = (mutex k m).ceiling; owner = t; count = n }))

-- condition variable c is tied to mutex m
unfoldable pub tie : Rows → ℕ → ℕ → Rows
tie k c m = with_ties k (set k.ties c m)

-- ---- arriving and leaving

-- the set of queues at w; who runs is in none
unfoldable pub set_at : Sets → Where → QueueSet
set_at s running = empty_set
set_at s ready = s.ready
set_at s (for_mutex m) = get_or s.mutex m empty_set
set_at s (on_condition c) = get_or s.condition c empty_set

-- the set of queues at w becomes q
unfoldable pub put_set : Sets → Where → QueueSet → Sets
put_set s running q = s
put_set s ready q = record { ready = q; mutex = s.mutex; condition = s.condition }
put_set s (for_mutex m) q = record { ready = s.ready; mutex = set s.mutex m q; condition = s.condition }
put_set s (on_condition c) q = record { ready = s.ready; mutex = s.mutex; condition = set s.condition c q }

-- the highest, earliest at w
abbrev pub first_at : Scheduler → Where → First
first_at h w = first (set_at h.sets w)

-- thread t arrives at w, at the back of the queue of its priority
unfoldable pub arrive : Scheduler → ℕ → Where → Scheduler
arrive h t w = record { rows = stand h.rows t w; sets = put_set h.sets w (to_back (set_at h.sets w) (priority h.rows t) t) }

-- thread t is ready, at the front of the queue of its priority
unfoldable pub arrive_in_front : Scheduler → ℕ → Scheduler
arrive_in_front h t = record { rows = stand h.rows t ready; sets = put_set h.sets ready (to_front (set_at h.sets ready) (priority h.rows t) t) }

-- the first of the queue of priority p leaves w
unfoldable pub depart : Scheduler → Where → ℕ → Scheduler
depart h w p = record { rows = h.rows; sets = put_set h.sets w (first_leaves (set_at h.sets w) p) }

-- ---- boot

-- the scheduler is stopped, thread 0 is ready, nothing else exists, the tick count is 0
unfoldable pub boot : State
boot = record {
  scheduler = record {
    rows = record { started = false; runner = 255; threads = record { base = 0; stands = ready } ∷ []; mutexes = []; ties = [] };
    sets = record { ready = to_back empty_set 0 0; mutex = []; condition = [] };
  };
  count = 0;
  timers = [];
}
