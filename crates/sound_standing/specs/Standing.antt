-- What the clauses on a page read of the tables that they are handed: the code's promises cite these.
-- An id is taken modulo the size of its table.
-- Assumes nothing.
use Rattle.std.specs.Prelude.{ℕ, zero, suc, ◌%◌, max, Bool, cond, not, List, get_or, eqb, ltb}
use Rattle.laws.specs.Lists.{tabulate}
use Rattle.rules.specs.State.{Where, same, Thread}
use Rattle.rules.specs.Sound.{each}
use Rattle.rules.specs.Page.{where_of, thread_of}
use Rattle.value_effects.specs.declared.Mutex.{Mutex}
use Rattle.value_effects.specs.Effects.{ceiling_for}
use Rattle.page.specs.declared.ThreadRow.{ThreadRow}
use Rattle.page.specs.declared.TimerRow.{TimerRow}
use Rattle.page.specs.Says.{thread_said, no_thread_row, no_mutex_row, no_timer_row}

-- ---- rows

-- the row of thread t
abbrev pub row_at : List ThreadRow → ℕ → ThreadRow
row_at rows t = get_or rows (t % 32) no_thread_row

-- of mutex m
abbrev pub mutex_at : List Mutex → ℕ → Mutex
mutex_at rows m = get_or rows (m % 16) no_mutex_row

-- the mutex that condition variable c is tied to
abbrev pub tie_at : List ℕ → ℕ → ℕ
tie_at ties c = get_or ties (c % 16) 0

-- the row of timer i
abbrev pub timer_at : List TimerRow → ℕ → TimerRow
timer_at rows i = get_or rows (i % 32) no_timer_row

-- the priority of thread t
abbrev pub priority_at : List ℕ → ℕ → ℕ
priority_at priorities t = get_or priorities (t % 32) 0

-- where the thread of a row stands
abbrev pub stands_of : ThreadRow → Where
stands_of row = where_of row.state row.object

-- the kind of a thread state: 1, 2, 3, and 4 for every other number
unfoldable pub kind_of : ℕ → ℕ
kind_of state = cond (eqb state 1) 1 (cond (eqb state 2) 2 (cond (eqb state 3) 3 4))

-- ---- priorities

-- the largest of f at the numbers below n, or 0
unfoldable pub highest : ℕ → (ℕ → ℕ) → ℕ
highest zero f = 0
highest (suc n) f = max (f n) (highest n f)

-- the largest ceiling of the first n mutexes that thread t owns, or 0
unfoldable pub ceiling_in : List Mutex → ℕ → ℕ → ℕ
ceiling_in mutexes n t = highest n (λ m. ceiling_for (mutex_at mutexes m) t)

-- the priority of each thread
unfoldable pub priorities_in : List ThreadRow → List Mutex → ℕ → List ℕ
priorities_in rows mutexes n = tabulate 32 (λ t. max (row_at rows t).base (ceiling_in mutexes n t))

-- whether thread t owns none of the first n mutexes
unfoldable pub owns_nothing_in : List Mutex → ℕ → ℕ → Bool
owns_nothing_in mutexes n t = each n (λ m. not (eqb (mutex_at mutexes m).owner t))

-- ---- who stands where

-- none of the first n threads stands at w
unfoldable pub nobody_in : List ThreadRow → ℕ → Where → Bool
nobody_in rows n w = each n (λ t. not (same (stands_of (row_at rows t)) w))

-- whether anyone does
abbrev pub anyone_in : List ThreadRow → ℕ → Where → Bool
anyone_in rows n w = not (nobody_in rows n w)

-- ---- the running thread

-- the first n threads
unfoldable pub threads_in : List ThreadRow → ℕ → List Thread
threads_in rows n = tabulate n (λ t. thread_of (thread_said (row_at rows t)))

-- the priority of a thread, of the first n or none
unfoldable pub top_in : List ThreadRow → ℕ → List Mutex → ℕ → ℕ → ℕ
top_in rows n mutexes k t = max (cond (ltb t n) (row_at rows t).base 0) (ceiling_in mutexes k t)
