-- What the verdict functions make of the values that they are handed: the code's promises cite these. Each verdict is that of the first
-- of its tests that holds, in document 01's order of checking, or done.
-- Assumes nothing.
use Rattle.std.specs.Prelude.{Option, Some, None}
use Rattle.std.specs.Prelude.{ℕ, ◌+◌, Bool, cond, not, ◌||◌, ◌&&◌, List, [], ◌∷◌, eqb, ltb, leb}
use Rattle.units.specs.declared.Ticks.{Ticks}
use Rattle.units.specs.Units.{outside}
use Rattle.value_effects.specs.declared.Mutex.{Mutex}
use Rattle.calls.specs.declared.Verdict.{Verdict}
use Rattle.calls.specs.declared.Verdict.TheVariants.{Stopped, AlreadyStarted, NoSuchId, IdleCaller, OutOfRange, TableFull, AboveCeiling, NotOwner, CountFull, HoldingMore, TiedElsewhere, TimerRunning, TimerStopped}
use Rattle.calls.specs.Answers.{number_of}
use Rattle.rules.specs.Refusals.{◌⇒◌, verdict}

-- whether a thread of this base or a mutex of this ceiling can be created
unfoldable pub created_verdict : ℕ → ℕ → ℕ → Verdict
created_verdict value count limit = verdict ((outside 1 15 value ⇒ OutOfRange) ∷ (leb limit count ⇒ TableFull) ∷ [])

-- whether a table has room
unfoldable pub room_verdict : ℕ → ℕ → Verdict
room_verdict count limit = verdict ((leb limit count ⇒ TableFull) ∷ [])

-- whether the scheduler can start
unfoldable pub start_verdict : Bool → Verdict
start_verdict started = verdict ((started ⇒ AlreadyStarted) ∷ [])

-- whether the caller can acquire mutex m
unfoldable pub acquire_verdict : Bool → ℕ → ℕ → ℕ → Mutex → ℕ → Verdict
acquire_verdict started mutexes m running row priority = verdict
    ((not started ⇒ Stopped)
    ∷ (leb mutexes m ⇒ NoSuchId)
    ∷ (eqb running 0 ⇒ IdleCaller)
    ∷ (not (eqb row.owner running) && ltb row.ceiling priority ⇒ AboveCeiling)
    ∷ (eqb row.owner running && eqb row.count 255 ⇒ CountFull) ∷ [])

-- whether the caller can release mutex m
unfoldable pub release_verdict : Bool → ℕ → ℕ → ℕ → ℕ → Verdict
release_verdict started mutexes m running owner = verdict ((not started ⇒ Stopped) ∷ (leb mutexes m ⇒ NoSuchId) ∷ (not (eqb owner running) ⇒ NotOwner) ∷ [])

-- what a wait asks beyond the ids
unfoldable pub held_verdict : ℕ → ℕ → Mutex → ℕ → ℕ → Verdict
held_verdict m running row owned tie = verdict
    ((eqb running 0 ⇒ IdleCaller)
    ∷ (not (eqb row.owner running) ⇒ NotOwner)
    ∷ (ltb 1 row.count || ltb 1 owned ⇒ HoldingMore)
    ∷ (not (eqb tie 255) && not (eqb tie m) ⇒ TiedElsewhere) ∷ [])

-- whether the ids of a call on two things exist, while started
unfoldable pub ids_verdict : Bool → ℕ → ℕ → ℕ → ℕ → Verdict
ids_verdict started first i second j = verdict ((not started ⇒ Stopped) ∷ (leb first i || leb second j ⇒ NoSuchId) ∷ [])

-- whether an id exists, while started
unfoldable pub id_verdict : Bool → ℕ → ℕ → Verdict
id_verdict started count i = verdict ((not started ⇒ Stopped) ∷ (leb count i ⇒ NoSuchId) ∷ [])

-- whether a timer of this state can start
unfoldable pub start_timer_verdict : ℕ → Verdict
start_timer_verdict state = verdict ((not (eqb state 0) ⇒ TimerRunning) ∷ [])

-- whether it can with a delay of this length
unfoldable pub delay_verdict : Option Ticks → ℕ → Verdict
delay_verdict None state = OutOfRange
delay_verdict (Some n) state = start_timer_verdict state

-- whether a timer of this state can stop
unfoldable pub stop_verdict : ℕ → Verdict
stop_verdict state = verdict ((eqb state 0 ⇒ TimerStopped) ∷ [])

-- the first verdict that is not done
unfoldable pub first_verdict : Verdict → Verdict → Verdict
first_verdict a b = cond (eqb (number_of a) 0) b a

-- 1 if thread t owns the mutex, else 0
unfoldable pub owned_one : Mutex → ℕ → ℕ
owned_one row t = cond (eqb row.owner t) 1 0

-- how many mutexes thread t owns
unfoldable pub owned_in : List Mutex → ℕ → ℕ
owned_in [] t = 0
owned_in (m ∷ ms) t = owned_one m t + owned_in ms t
