-- From a record's page to the plain book and back, and the book at boot.
-- Assumes nothing.
use Rattle.std.specs.Prelude.{ℕ, zero, suc, ◌+◌, ◌-◌, ◌%◌, false, cond, ◌&&◌, List, [], ◌∷◌, map, length, eqb, ℤ, pos}
use Rattle.std.specs.Int.Signed.{lt_z}
use Rattle.laws.specs.Lists.{tabulate}
use Rattle.rules.specs.State.{Where, running, ready, for_mutex, on_condition, TimerState, stopped, one_shot, periodic}
use Rattle.rules.specs.Page.{ThreadRow, TimerRow, Page}
use Rattle.book.specs.Book.{Book, Thread, Timer, thread, priority, stands_at, there}

-- at boot the scheduler is stopped, thread 0 is ready, nothing else exists, the tick count is 0
unfoldable pub book_boot : Book
book_boot = record { started = false; runner = 255; threads = record { base = 0; stands = ready; mark = pos 0 } ∷ []; mutexes = []; ties = []; count = 0; timers = [] }

-- ---- from a page

-- where a thread of state 1 ready, 2 running, 3 mutex or 4 condition variable stands
unfoldable pub place_of : ℕ → ℕ → Where
place_of state object = cond (eqb state 1) ready (cond (eqb state 2) running (cond (eqb state 3) (for_mutex object) (on_condition object)))

-- state 0 stopped, 1 one-shot, 2 periodic
unfoldable pub kind_of : ℕ → TimerState
kind_of state = cond (eqb state 0) stopped (cond (eqb state 1) one_shot periodic)

-- the mark is the place
abbrev pub enter_thread : ThreadRow → Thread
enter_thread x = record { base = x.base; stands = place_of x.state x.object; mark = pos x.place }

-- due is the tick count and the ticks left
abbrev pub enter_timer : ℕ → TimerRow → Timer
enter_timer now x = record { state = kind_of x.state; condition = x.condition; length = x.length; due = now + x.left }

-- the running thread, which has state 2, where the first row is thread i; 255 for none
unfoldable pub running_in : ℕ → List ThreadRow → ℕ
running_in i [] = 255
running_in i (x ∷ xs) = cond (eqb x.state 2) i (running_in (suc i) xs)

-- the book that begins at a loaded record
unfoldable pub enter : Page → Book
enter p = record {
  started = p.started;
  runner = running_in 0 p.threads;
  threads = map enter_thread p.threads;
  mutexes = p.mutexes;
  ties = p.ties;
  count = p.count;
  timers = map (enter_timer p.count) p.timers;
}

-- ---- to a page

-- 1 ready, 2 running, 3 mutex, 4 condition variable
unfoldable pub state_number : Where → ℕ
state_number ready = 1
state_number running = 2
state_number (for_mutex m) = 3
state_number (on_condition c) = 4

-- the object waited for, or 255
unfoldable pub object_number : Where → ℕ
object_number ready = 255
object_number running = 255
object_number (for_mutex m) = m
object_number (on_condition c) = c

-- 0 stopped, 1 one-shot, 2 periodic
unfoldable pub kind_number : TimerState → ℕ
kind_number stopped = 0
kind_number one_shot = 1
kind_number periodic = 2

-- how many threads below n stand at w with priority p and a mark lower than z
unfoldable pub lower : Book → Where → ℕ → ℤ → ℕ → ℕ
lower b w p z zero = 0
lower b w p z (suc n) = cond (there b w p n && lt_z (thread b n).mark z) 1 0 + lower b w p z n

-- a thread's place is how many that stand there with its priority have a lower mark; the running thread's is 0
abbrev pub place_in : Book → ℕ → ℕ
place_in b t =
    let x = thread b t in
    cond (stands_at b running t) 0 (lower b x.stands (priority b t) x.mark (length b.threads))

-- base, state, object, place
abbrev pub show_thread : Book → ℕ → ThreadRow
show_thread b t =
    let x = thread b t in
    record { base = x.base; state = state_number x.stands; object = object_number x.stands; place = place_in b t }

-- the ticks left are those from the tick count to the due tick
abbrev pub show_timer : ℕ → Timer → TimerRow
show_timer now x = record { state = kind_number x.state; condition = x.condition; length = x.length; left = x.due - now }

-- the record that is saved; the tick count is shown modulo 4,294,967,296
unfoldable pub show : Book → Page
show b = record {
  started = b.started;
  count = b.count % 4294967296;
  threads = tabulate (length b.threads) (show_thread b);
  mutexes = b.mutexes;
  ties = b.ties;
  timers = map (show_timer b.count) b.timers;
}
