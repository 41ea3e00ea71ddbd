-- What a saved record says, as plain rows of numbers; when such a page is sound; the state that it describes, and the page of a state.
-- Assumes nothing.
use Rattle.std.specs.Prelude.{ℕ, zero, suc, ◌+◌, Bool, true, cond, not, ◌||◌, ◌&&◌, length, get_or, eqb, ltb, leb}
use mathlib.Core.List.{List, [], ◌∷◌, map, flatten}
use Rattle.laws.specs.Lists.{among, tabulate}
use Rattle.units.specs.Units.{outside}
use Rattle.rules.specs.Queues.{QueueSet, queue}
use Rattle.rules.specs.State.{Where, running, ready, for_mutex, on_condition, same, Thread, Mutex, TimerState, stopped, one_shot, periodic, Timer, Rows, Scheduler, State, thread, at, priority, set_at}
use Rattle.rules.specs.Sound.{all, each, clauses}

-- ---- the rows of a page

-- base, state (1 ready, 2 running, 3 mutex, 4 condition variable), object waited for or 255, place in its queue from 0
pub record ThreadRow : Type 0 where
  pub base : ℕ
  pub state : ℕ
  pub object : ℕ
  pub place : ℕ

-- state (0 stopped, 1 one-shot, 2 periodic), condition variable or 255, n, ticks left
pub record TimerRow : Type 0 where
  pub state : ℕ
  pub condition : ℕ
  pub length : ℕ
  pub left : ℕ

-- started, the tick count, and the four tables; a mutex is ceiling, owner or 255, count, and a condition variable its tied mutex or 255
pub record Page : Type 0 where
  pub started : Bool
  pub count : ℕ
  pub threads : List ThreadRow
  pub mutexes : List Mutex
  pub ties : List ℕ
  pub timers : List TimerRow

-- outside the table
abbrev pub no_row : ThreadRow
no_row = record { base = 0; state = 2; object = 255; place = 0 }

-- the row of thread t
abbrev pub thread_row : Page → ℕ → ThreadRow
thread_row p t = get_or p.threads t no_row

-- ---- what the numbers mean

-- where a thread of this state and object stands
unfoldable pub where_of : ℕ → ℕ → Where
where_of state object = cond (eqb state 1) ready (cond (eqb state 2) running (cond (eqb state 3) (for_mutex object) (on_condition object)))

-- the state of a timer
unfoldable pub timer_state_of : ℕ → TimerState
timer_state_of state = cond (eqb state 0) stopped (cond (eqb state 1) one_shot periodic)

-- the thread of a row
abbrev pub thread_of : ThreadRow → Thread
thread_of x = record { base = x.base; stands = where_of x.state x.object }

-- the timer of a row
abbrev pub timer_of : TimerRow → Timer
timer_of x = record { state = timer_state_of x.state; condition = x.condition; length = x.length; left = x.left }

-- the id of the first thread of a list that runs, where the first has id i; 255 for none
unfoldable pub runner_from : ℕ → List Thread → ℕ
runner_from i [] = 255
runner_from i (x ∷ xs) = cond (same x.stands running) i (runner_from (suc i) xs)

-- the rows of the state that a page describes
unfoldable pub rows_of : Page → Rows
rows_of p = record { started = p.started; runner = runner_from 0 (map thread_of p.threads); threads = map thread_of p.threads; mutexes = p.mutexes; ties = p.ties }

-- whether thread t stands at w with priority q
abbrev pub in_queue : Rows → Where → ℕ → ℕ → Bool
in_queue k w q t = at k w t && eqb (priority k t) q

-- a queue: whoever stands at w with priority q, those of place 0 first, then those of place 1, and so on
unfoldable pub queue_of : Page → Where → ℕ → List ℕ
queue_of p w q = flatten (tabulate (length p.threads) (λ i. among (length p.threads) (λ t. in_queue (rows_of p) w q t && eqb (thread_row p t).place i)))

-- one queue for each of the 16 priorities
unfoldable pub set_of : Page → Where → QueueSet
set_of p w = tabulate 16 (queue_of p w)

-- the state that a page describes
unfoldable pub described_by : Page → State
described_by p = record {
  scheduler = record {
    rows = rows_of p;
    sets = record {
      ready = set_of p ready;
      mutex = tabulate (length p.mutexes) (λ m. set_of p (for_mutex m));
      condition = tabulate (length p.ties) (λ c. set_of p (on_condition c));
    };
  };
  count = p.count;
  timers = map timer_of p.timers;
}

-- ---- when a page is sound

-- how many threads below n pass a test
unfoldable pub how_many : ℕ → (ℕ → Bool) → ℕ
how_many zero f = 0
how_many (suc n) f = cond (f n) 1 0 + how_many n f

-- whether threads t and u are in one queue
abbrev pub together : Rows → ℕ → ℕ → Bool
together k t u = in_queue k (thread k t).stands (priority k t) u

-- places in each queue run 0, 1, .. without repeats: as many of its queue have a smaller place as its place says, and no other has the same
abbrev pub place_sound : Page → ℕ → Bool
place_sound p t =
    let k = rows_of p in
    let n = length p.threads in
    let mine = (thread_row p t).place in
    cond (at k running t) (eqb mine 0)
    (eqb (how_many n (λ u. together k t u && ltb (thread_row p u).place mine)) mine
    && eqb (how_many n (λ u. together k t u && eqb (thread_row p u).place mine)) 1)

-- objects are 255 for states 1 and 2
abbrev pub object_sound : ThreadRow → Bool
object_sound x = leb 3 x.state || eqb x.object 255

-- a thread state is 1 to 4
abbrev pub thread_formed : ThreadRow → Bool
thread_formed x = not (outside 1 4 x.state)

-- a timer state is at most 2
abbrev pub timer_formed : TimerRow → Bool
timer_formed x = leb x.state 2

-- a test of each row of a table
module _ {A : Type 0} where
  -- a test of each row of a table
  unfoldable pub each_row : (A → Bool) → List A → Bool
  each_row f [] = true
  each_row f (x ∷ xs) = f x && each_row f xs

-- the states are among those that the record has; otherwise the record is of wrong form
unfoldable pub page_formed : Page → Bool
page_formed p = each_row thread_formed p.threads && each_row timer_formed p.timers

-- a sound page: the clauses over the rows, the objects and the places
unfoldable pub page_sound : Page → Bool
page_sound p = all (clauses (rows_of p) p.count (map timer_of p.timers)) && each_row object_sound p.threads && each (length p.threads) (place_sound p)

-- ---- the page of a state

-- 1 ready, 2 running, 3 mutex, 4 condition variable
unfoldable pub state_code : Where → ℕ
state_code running = 2
state_code ready = 1
state_code (for_mutex m) = 3
state_code (on_condition c) = 4

-- the object waited for, or 255
unfoldable pub object_code : Where → ℕ
object_code running = 255
object_code ready = 255
object_code (for_mutex m) = m
object_code (on_condition c) = c

-- 0 stopped, 1 one-shot, 2 periodic
unfoldable pub timer_code : TimerState → ℕ
timer_code stopped = 0
timer_code one_shot = 1
timer_code periodic = 2

-- how many stand in front of thread t in a queue
unfoldable pub ahead : ℕ → List ℕ → ℕ
ahead t [] = 0
ahead t (u ∷ q) = cond (eqb t u) 0 (suc (ahead t q))

-- the place of thread t in its queue; the running thread's is 0
abbrev pub place_at : Scheduler → ℕ → ℕ
place_at h t =
    let k = h.rows in
    cond (at k running t) 0 (ahead t (queue (set_at h.sets (thread k t).stands) (priority k t)))

-- the row of thread t of a state
abbrev pub row_at : Scheduler → ℕ → ThreadRow
row_at h t =
    let x = thread h.rows t in
    record { base = x.base; state = state_code x.stands; object = object_code x.stands; place = place_at h t }

-- the row of a timer
abbrev pub timer_row_of : Timer → TimerRow
timer_row_of x = record { state = timer_code x.state; condition = x.condition; length = x.length; left = x.left }

-- the page of a state
unfoldable pub page_of : State → Page
page_of s = record {
  started = s.scheduler.rows.started;
  count = s.count;
  threads = tabulate (length s.scheduler.rows.threads) (row_at s.scheduler);
  mutexes = s.scheduler.rows.mutexes;
  ties = s.scheduler.rows.ties;
  timers = map timer_row_of s.timers;
}
