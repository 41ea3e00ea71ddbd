-- What the clauses on the mutexes, the condition variables and the timers of a page make of the tables that they are handed: the code's promises cite these.
-- An id is taken modulo the size of its table.
-- Assumes nothing.
use Rattle.std.specs.Prelude.{ℕ, ◌+◌, Bool, cond, not, ◌&&◌, List, eqb, ltb, leb}
use Rattle.units.specs.Units.{outside}
use Rattle.rules.specs.State.{for_mutex, on_condition, same}
use Rattle.rules.specs.Effects.{goes}
use Rattle.rules.specs.Sound.{each, implies, most_left}
use Rattle.rules.specs.Page.{timer_state_of}
use Rattle.value_effects.specs.declared.Mutex.{Mutex}
use Rattle.page.specs.declared.ThreadRow.{ThreadRow}
use Rattle.page.specs.declared.TimerRow.{TimerRow}
use Rattle.sound_standing.specs.Standing.{row_at, mutex_at, tie_at, timer_at, priority_at, stands_of, owns_nothing_in, anyone_in}

-- ---- mutexes

-- ceilings 1 to 15
unfoldable pub ceilings_in : List Mutex → ℕ → Bool
ceilings_in mutexes n = each n (λ m. not (outside 1 15 (mutex_at mutexes m).ceiling))

-- a waiter isn't the owner and its priority isn't above the ceiling
unfoldable pub mutex_waiter_fits : ℕ → Mutex → ℕ → ThreadRow → ℕ → Bool
mutex_waiter_fits m row t other its = implies (same (stands_of other) (for_mutex m)) (not (eqb t row.owner) && leb its row.ceiling)

-- of each thread
unfoldable pub mutex_waiters_in : List ThreadRow → ℕ → List ℕ → ℕ → Mutex → Bool
mutex_waiters_in rows n priorities m row = each n (λ t. mutex_waiter_fits m row t (row_at rows t) (priority_at priorities t))

-- unowned it has owner 255, count 0 and no waiter; owned it has an existing owner, count 1 to 255, owner's base not above the ceiling
unfoldable pub owner_fits : List ThreadRow → ℕ → ℕ → Mutex → Bool
owner_fits rows n m row =
    cond (eqb row.owner 255) (eqb row.count 0 && not (anyone_in rows n (for_mutex m)))
    (ltb row.owner n && not (outside 1 255 row.count) && leb (row_at rows row.owner).base row.ceiling)

-- both
abbrev pub mutex_fits : List ThreadRow → ℕ → List ℕ → ℕ → Mutex → Bool
mutex_fits rows n priorities m row = owner_fits rows n m row && mutex_waiters_in rows n priorities m row

-- of each mutex
unfoldable pub mutexes_in : List Mutex → ℕ → List ThreadRow → ℕ → List ℕ → Bool
mutexes_in mutexes n rows threads priorities = each n (λ m. mutex_fits rows threads priorities m (mutex_at mutexes m))

-- ---- condition variables

-- the ceiling of mutex m, of the first n; 0 for one that is not there
abbrev pub ceiling_of : List Mutex → ℕ → ℕ → ℕ
ceiling_of mutexes n m = cond (ltb m n) (mutex_at mutexes m).ceiling 0

-- a waiter on condition variable c owns nothing and has base not above the ceiling
unfoldable pub condition_waiter_fits : List Mutex → ℕ → ℕ → ℕ → ℕ → ThreadRow → Bool
condition_waiter_fits mutexes n c ceiling t row = implies (same (stands_of row) (on_condition c)) (owns_nothing_in mutexes n t && leb row.base ceiling)

-- of each thread
unfoldable pub condition_waiters_in : List ThreadRow → ℕ → List Mutex → ℕ → ℕ → ℕ → Bool
condition_waiters_in rows threads mutexes n c ceiling = each threads (λ t. condition_waiter_fits mutexes n c ceiling t (row_at rows t))

-- tied exactly while someone waits, to a mutex that exists
abbrev pub tie_fits : Bool → ℕ → ℕ → Bool
tie_fits someone n tie = cond someone (ltb tie n) (eqb tie 255)

-- both
unfoldable pub condition_fits : List ThreadRow → ℕ → List Mutex → ℕ → ℕ → ℕ → Bool
condition_fits rows threads mutexes n c tie =
    tie_fits (anyone_in rows threads (on_condition c)) n tie && condition_waiters_in rows threads mutexes n c (ceiling_of mutexes n tie)

-- of each condition variable
unfoldable pub conditions_in : List ℕ → ℕ → List ThreadRow → ℕ → List Mutex → ℕ → Bool
conditions_in ties conditions rows threads mutexes n = each conditions (λ c. condition_fits rows threads mutexes n c (tie_at ties c))

-- ---- timers

-- the n of a running timer and its ticks left: from 1 to 65,535 both, and left at most n for a one-shot, which expires once, else n + 1
unfoldable pub ticks_fit : Bool → ℕ → ℕ → Bool
ticks_fit once n left = not (outside 1 65535 n) && not (outside 1 65535 left) && leb left (cond once n (n + 1))

-- a running timer has an existing condition variable, n and ticks left from 1 to 65,535, and left at most the most of its state; a stopped one 255, 0 and 0
unfoldable pub timer_fits : ℕ → TimerRow → Bool
timer_fits conditions row =
    cond (goes (timer_state_of row.state))
    (ltb row.condition conditions && not (outside 1 65535 row.length.0) && not (outside 1 65535 row.left.0) && leb row.left.0 (most_left (timer_state_of row.state) row.length.0))
    (eqb row.condition 255 && eqb row.length.0 0 && eqb row.left.0 0)

-- of each timer
unfoldable pub timers_in : List TimerRow → ℕ → ℕ → Bool
timers_in rows n conditions = each n (λ i. timer_fits conditions (timer_at rows i))
