-- The plain book of demand 3: base priorities, places, owners, marks of arrival and due ticks, as unbounded numbers.
-- It has no queue, no wheel and no stored priority: whoever is needed is searched for among the threads. An id of 255 stands for none.
-- Of the kernel's definition only types are used, and the test whether two places are the same.
-- Assumes nothing.
use Rattle.std.specs.Prelude.{ℕ, zero, suc, ◌+◌, max, Bool, true, cond, ◌&&◌, ◌||◌, List, [], ◌∷◌, length, get_or, set, eqb, ltb, ℤ, pos}
use Rattle.std.proofs.Math.IntN.{suc_ℤ, pred_ℤ}
use Rattle.std.specs.Int.Signed.{lt_z}
use Rattle.rules.specs.State.{Where, running, ready, same, Mutex, TimerState, stopped}

-- a thread: its base priority, where it stands, and its mark of arrival there
pub record Thread : Type 0 where
  pub base : ℕ
  pub stands : Where
  pub mark : ℤ

-- a timer: stopped, one-shot or periodic, its condition variable, its length or a periodic one's repeat, and the tick at which it is due
pub record Timer : Type 0 where
  pub state : TimerState
  pub condition : ℕ
  pub length : ℕ
  pub due : ℕ

-- the book: a mutex is its ceiling, owner and count, a tie is a mutex
pub record Book : Type 0 where
  pub started : Bool
  pub runner : ℕ
  pub threads : List Thread
  pub mutexes : List Mutex
  pub ties : List ℕ
  pub count : ℕ
  pub timers : List Timer

-- ---- what stands at an id; outside a table a row that is never used

-- outside the table
abbrev pub no_thread : Thread
no_thread = record { base = 0; stands = running; mark = pos 0 }

-- outside the table
abbrev pub no_mutex : Mutex
no_mutex = record { ceiling = 0; owner = 255; count = 0 }

-- thread t
abbrev pub thread : Book → ℕ → Thread
thread b t = get_or b.threads t no_thread

-- mutex m
abbrev pub mutex : Book → ℕ → Mutex
mutex b m = get_or b.mutexes m no_mutex

-- the mutex that condition variable c is tied to
abbrev pub tied : Book → ℕ → ℕ
tied b c = get_or b.ties c 255

-- a stopped timer
abbrev pub stopped_timer : Timer
stopped_timer = record { state = stopped; condition = 255; length = 0; due = 0 }

-- timer i
abbrev pub timer : Book → ℕ → Timer
timer b i = get_or b.timers i stopped_timer

-- ---- the book with one thing changed

-- the book with other threads
abbrev pub with_threads : Book → List Thread → Book
with_threads b x = record { started = b.started; runner = b.runner; threads = x; mutexes = b.mutexes; ties = b.ties; count = b.count; timers = b.timers }

-- with other mutexes
abbrev pub with_mutexes : Book → List Mutex → Book
with_mutexes b x = record { started = b.started; runner = b.runner; threads = b.threads; mutexes = x; ties = b.ties; count = b.count; timers = b.timers }

-- with other ties
abbrev pub with_ties : Book → List ℕ → Book
with_ties b x = record { started = b.started; runner = b.runner; threads = b.threads; mutexes = b.mutexes; ties = x; count = b.count; timers = b.timers }

-- with other timers
abbrev pub with_timers : Book → List Timer → Book
with_timers b x = record { started = b.started; runner = b.runner; threads = b.threads; mutexes = b.mutexes; ties = b.ties; count = b.count; timers = x }

-- one tick more
abbrev pub next_tick : Book → Book
next_tick b = record { started = b.started; runner = b.runner; threads = b.threads; mutexes = b.mutexes; ties = b.ties; count = b.count + 1; timers = b.timers }

-- the scheduler is started
abbrev pub now_started : Book → Book
now_started b = record { started = true; runner = b.runner; threads = b.threads; mutexes = b.mutexes; ties = b.ties; count = b.count; timers = b.timers }

-- thread t is the running thread
abbrev pub with_runner : Book → ℕ → Book
with_runner b t = record { started = b.started; runner = t; threads = b.threads; mutexes = b.mutexes; ties = b.ties; count = b.count; timers = b.timers }

-- thread t stands at w with mark z
unfoldable pub stand : Book → ℕ → Where → ℤ → Book
stand b t w z = with_threads b (set b.threads t (record { base = (thread b t).base; stands = w; mark = z }))

-- mutex m has owner t and count n
unfoldable pub own : Book → ℕ → ℕ → ℕ → Book
own b m t n = with_mutexes b (set b.mutexes m (record { ceiling = (mutex b m).ceiling; owner = t; count = n }))

-- ---- priority

-- the largest ceiling of those mutexes that thread t owns, 0 if it owns none
unfoldable pub largest_owned : ℕ → List Mutex → ℕ
largest_owned t [] = 0
largest_owned t (m ∷ ms) = cond (eqb m.owner t) (max m.ceiling (largest_owned t ms)) (largest_owned t ms)

-- the largest of its base priority and the ceilings of the mutexes it owns
unfoldable pub priority : Book → ℕ → ℕ
priority b t = max (thread b t).base (largest_owned t b.mutexes)

-- ---- who is searched for

-- whether thread t stands at w
abbrev pub stands_at : Book → Where → ℕ → Bool
stands_at b w t = same (thread b t).stands w

-- whether thread t stands at w with priority p: those of whom this holds stand in one line
abbrev pub there : Book → Where → ℕ → ℕ → Bool
there b w p t = stands_at b w t && eqb (priority b t) p

-- whether thread t comes before thread u: its priority is higher, or the same and its mark is lower
abbrev pub comes_first : Book → ℕ → ℕ → Bool
comes_first b t u = ltb (priority b u) (priority b t) || (eqb (priority b u) (priority b t) && lt_z (thread b t).mark (thread b u).mark)

-- nobody, or a thread
pub data Found : Type 0 where
  nobody : Found
  somebody : ℕ → Found

-- thread t, or whom was found, if that comes first
unfoldable pub better : Book → ℕ → Found → Found
better b t nobody = somebody t
better b t (somebody u) = somebody (cond (comes_first b t u) t u)

-- the highest, earliest at w among the threads below n
unfoldable pub first_below : Book → Where → ℕ → Found
first_below b w zero = nobody
first_below b w (suc n) = cond (stands_at b w n) (better b n (first_below b w n)) (first_below b w n)

-- the highest, earliest at w
abbrev pub highest_earliest : Book → Where → Found
highest_earliest b w = first_below b w (length b.threads)

-- ---- marks of arrival

-- the marks of those threads below n that stand at w with priority p
unfoldable pub marks_below : Book → Where → ℕ → ℕ → List ℤ
marks_below b w p zero = []
marks_below b w p (suc n) = cond (there b w p n) ((thread b n).mark ∷ marks_below b w p n) (marks_below b w p n)

-- the last of a mark and others, in the order that `less` tells
unfoldable pub furthest : (ℤ → ℤ → Bool) → ℤ → List ℤ → ℤ
furthest less x [] = x
furthest less x (y ∷ ys) = furthest less (cond (less x y) y x) ys

-- one above the largest of them; 0 where there are none
unfoldable pub above : List ℤ → ℤ
above [] = pos 0
above (x ∷ xs) = suc_ℤ (furthest lt_z x xs)

-- one below the least of them; 0 where there are none
unfoldable pub below : List ℤ → ℤ
below [] = pos 0
below (x ∷ xs) = pred_ℤ (furthest (λ y z. lt_z z y) x xs)

-- the marks of those at w with the priority of thread t
abbrev pub marks_for : Book → ℕ → Where → List ℤ
marks_for b t w = marks_below b w (priority b t) (length b.threads)

-- thread t arrives at w, its mark one above all others there
unfoldable pub arrive : Book → ℕ → Where → Book
arrive b t w = stand b t w (above (marks_for b t w))

-- thread t is sent to the front of the ready, its mark below all others there
unfoldable pub arrive_in_front : Book → ℕ → Book
arrive_in_front b t = stand b t ready (below (marks_for b t ready))
