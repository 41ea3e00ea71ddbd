-- When a call of a sound state is refused, and by which verdict: for each call the tests in document 01's order of checking
-- (2, 3, 4, 6, 7, 5, then the rest by number). The first that holds decides.
-- Assumes nothing.
use Rattle.std.specs.Prelude.{ℕ, Bool, cond, not, ◌||◌, ◌&&◌, List, [], ◌∷◌, length, eqb, ltb, leb}
use Rattle.units.specs.Units.{ticks_in, too_long, outside}
use Rattle.calls.specs.declared.Call.{Call}
use Rattle.calls.specs.declared.Call.TheVariants.{Start, CreateThread, CreateMutex, CreateCondition, CreateTimer, Acquire, Release, Wait, Signal, Broadcast, StartTimer, StopTimer, Tick}
use Rattle.calls.specs.declared.Verdict.{Verdict}
use Rattle.calls.specs.declared.Verdict.TheVariants.{Done, Stopped, AlreadyStarted, NoSuchId, IdleCaller, OutOfRange, TableFull, AboveCeiling, NotOwner, CountFull, HoldingMore, TiedElsewhere, TimerRunning, TimerStopped}
use Rattle.rules.specs.State.{Rows, Timer, State, mutex, tied, timer, priority, owned}
use Rattle.rules.specs.Effects.{goes}

-- a test and the verdict if it holds
pub record Test : Type 0 where
  pub holds : Bool
  pub verdict : Verdict

infixr 20 ◌⇒◌
-- a test with its verdict
abbrev pub ◌⇒◌ : Bool → Verdict → Test
b ⇒ v = record { holds = b; verdict = v }

-- the verdict of the first test that holds, or done
abbrev pub verdict : List Test → Verdict
verdict [] = Done
verdict (x ∷ xs) = cond x.holds x.verdict (verdict xs)

-- an id that does not exist
abbrev pub no_mutex_at : Rows → ℕ → Bool
no_mutex_at k m = leb (length k.mutexes) m

-- no condition variable
abbrev pub no_condition_at : Rows → ℕ → Bool
no_condition_at k c = leb (length k.ties) c

-- no timer
abbrev pub no_timer_at : List Timer → ℕ → Bool
no_timer_at ts i = leb (length ts) i

-- whether the caller owns mutex m
abbrev pub owns : Rows → ℕ → Bool
owns k m = eqb (mutex k m).owner k.runner

-- the tests of each call; a caller that owns the mutex of a wait owns another if it owns more than one
unfoldable pub tests : Rows → List Timer → Call → List Test
tests k ts Start = (k.started ⇒ AlreadyStarted) ∷ []
tests k ts (CreateThread base) = (outside 1 15 base ⇒ OutOfRange) ∷ (leb 32 (length k.threads) ⇒ TableFull) ∷ []
tests k ts (CreateMutex ceiling) = (outside 1 15 ceiling ⇒ OutOfRange) ∷ (leb 16 (length k.mutexes) ⇒ TableFull) ∷ []
tests k ts CreateCondition = (leb 16 (length k.ties) ⇒ TableFull) ∷ []
tests k ts CreateTimer = (leb 32 (length ts) ⇒ TableFull) ∷ []
tests k ts (Acquire m) =
    (not k.started ⇒ Stopped)
    ∷ (no_mutex_at k m ⇒ NoSuchId)
    ∷ (eqb k.runner 0 ⇒ IdleCaller)
    ∷ (not (owns k m) && ltb (mutex k m).ceiling (priority k k.runner) ⇒ AboveCeiling)
    ∷ (owns k m && eqb (mutex k m).count 255 ⇒ CountFull) ∷ []
tests k ts (Release m) =
    (not k.started ⇒ Stopped) ∷ (no_mutex_at k m ⇒ NoSuchId) ∷ (not (owns k m) ⇒ NotOwner) ∷ []
tests k ts (Wait c m) =
    (not k.started ⇒ Stopped)
    ∷ (no_condition_at k c || no_mutex_at k m ⇒ NoSuchId)
    ∷ (eqb k.runner 0 ⇒ IdleCaller)
    ∷ (not (owns k m) ⇒ NotOwner)
    ∷ (ltb 1 (mutex k m).count || ltb 1 (owned k.mutexes k.runner) ⇒ HoldingMore)
    ∷ (not (eqb (tied k c) 255) && not (eqb (tied k c) m) ⇒ TiedElsewhere) ∷ []
tests k ts (Signal c) = (not k.started ⇒ Stopped) ∷ (no_condition_at k c ⇒ NoSuchId) ∷ []
tests k ts (Broadcast c) = (not k.started ⇒ Stopped) ∷ (no_condition_at k c ⇒ NoSuchId) ∷ []
tests k ts (StartTimer i c kind v) =
    (not k.started ⇒ Stopped)
    ∷ (no_timer_at ts i || no_condition_at k c ⇒ NoSuchId)
    ∷ (too_long (ticks_in v.0) ⇒ OutOfRange)
    ∷ (goes (timer ts i).state ⇒ TimerRunning) ∷ []
tests k ts (StopTimer i) =
    (not k.started ⇒ Stopped) ∷ (no_timer_at ts i ⇒ NoSuchId) ∷ (not (goes (timer ts i).state) ⇒ TimerStopped) ∷ []
tests k ts Tick = (not k.started ⇒ Stopped) ∷ []

-- the verdict on a call of a sound state
unfoldable pub verdict_of : State → Call → Verdict
verdict_of s call = verdict (tests s.scheduler.rows s.timers call)
