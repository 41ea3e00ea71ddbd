-- What the clauses on a whole page make of its tables, the limits, the form of the states and the rest while stopped: the code's promises cite these.
-- An id is taken modulo the size of its table.
-- Assumes nothing.
use Rattle.std.specs.Prelude.{ℕ, Bool, not, ◌&&◌, List, eqb, leb}
use Rattle.units.specs.Units.{outside}
use Rattle.rules.specs.State.{ready, same}
use Rattle.rules.specs.Sound.{each, implies}
use Rattle.rules.specs.Page.{thread_formed, timer_formed}
use Rattle.value_effects.specs.declared.Mutex.{Mutex}
use Rattle.page.specs.declared.ThreadRow.{ThreadRow}
use Rattle.page.specs.declared.TimerRow.{TimerRow}
use Rattle.page.specs.Says.{thread_said, timer_said}
use Rattle.sound_standing.specs.Standing.{row_at, mutex_at, timer_at, stands_of}

-- the counts of the four tables
abbrev pub limits_in : ℕ → ℕ → ℕ → ℕ → Bool
limits_in threads mutexes conditions timers = not (outside 1 32 threads) && (leb mutexes 16 && (leb conditions 16 && leb timers 32))

-- ---- the form of the states

-- of the threads
unfoldable pub threads_formed_in : List ThreadRow → ℕ → Bool
threads_formed_in rows n = each n (λ t. thread_formed (thread_said (row_at rows t)))

-- of the timers
unfoldable pub timers_formed_in : List TimerRow → ℕ → Bool
timers_formed_in rows n = each n (λ i. timer_formed (timer_said (timer_at rows i)))

-- both
unfoldable pub form_in : List ThreadRow → ℕ → List TimerRow → ℕ → Bool
form_in rows n timers k = threads_formed_in rows n && timers_formed_in timers k

-- ---- rest

-- all threads are ready
unfoldable pub all_ready_in : List ThreadRow → ℕ → Bool
all_ready_in rows n = each n (λ t. same (stands_of (row_at rows t)) ready)

-- nothing is owned
unfoldable pub nothing_owned_in : List Mutex → ℕ → Bool
nothing_owned_in mutexes n = each n (λ m. eqb (mutex_at mutexes m).owner 255)

-- no timer runs
unfoldable pub no_timer_runs_in : List TimerRow → ℕ → Bool
no_timer_runs_in rows n = each n (λ i. eqb (timer_at rows i).state 0)

-- all these while stopped, and the count is 0
unfoldable pub rest_in : Bool → ℕ → List ThreadRow → ℕ → List Mutex → ℕ → List TimerRow → ℕ → Bool
rest_in started count rows threads mutexes n timers k =
    implies (not started) (all_ready_in rows threads && (nothing_owned_in mutexes n && (no_timer_runs_in timers k && eqb count 0)))
