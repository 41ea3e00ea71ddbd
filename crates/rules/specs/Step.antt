-- The step: a state and a call give an answer and the next state.
-- Assumes nothing.
use Rattle.std.specs.Prelude.{Option, Some, None}
use Rattle.std.specs.Prelude.{ℕ, Bool, true, false, cond, List, eqb}
use Rattle.calls.specs.declared.Call.{Call}
use Rattle.calls.specs.declared.Call.TheVariants.{Start, CreateThread, CreateMutex, CreateCondition, CreateTimer, Acquire, Release, Wait, Signal, Broadcast, StartTimer, StopTimer, Tick}
use Rattle.calls.specs.declared.Answer.{Answer}
use Rattle.calls.specs.declared.Verdict.{Verdict}
use Rattle.calls.specs.declared.Verdict.TheVariants.{NotSound, WrongRow}
use Rattle.calls.specs.Answers.{number_of}
use Rattle.calls.specs.Rows.{decoded}
use Rattle.rules.specs.State.{State}
use Rattle.rules.specs.Next.{choose_next}
use Rattle.rules.specs.Effects.{effect, given, with_scheduler}
use Rattle.rules.specs.Refusals.{verdict_of}
use Rattle.rules.specs.Sound.{sound}

-- an answer, and the state that follows
pub record Stepped : Type 0 where
  pub answer : Answer
  pub state : State

-- whether a call is the tick
abbrev pub is_tick : Call → Bool
is_tick Start = false
is_tick (CreateThread base) = false
is_tick (CreateMutex ceiling) = false
is_tick CreateCondition = false
is_tick CreateTimer = false
is_tick (Acquire m) = false
is_tick (Release m) = false
is_tick (Wait c m) = false
is_tick (Signal c) = false
is_tick (Broadcast c) = false
is_tick (StartTimer i c kind v) = false
is_tick (StopTimer i) = false
is_tick Tick = true

-- the state after an accepted call: its effect, then, while started, the choice of the next thread
unfoldable pub after : State → Call → State
after s call =
    let e = effect s call in
    let chosen = with_scheduler e (choose_next (is_tick call) e.scheduler) in
    cond e.scheduler.rows.started chosen e

-- the running thread, 255 if stopped
abbrev pub runner : State → ℕ
runner s = s.scheduler.rows.runner

-- accepted: 0, what is given, and who runs afterwards
abbrev pub accepted : State → Call → Stepped
accepted s call = record { answer = record { number = 0; given = given s call; running = runner (after s call) }; state = after s call }

-- refused: given is 255, the state unchanged
abbrev pub refused : State → ℕ → Verdict → Stepped
refused s running v = record { answer = record { number = number_of v; given = 255; running = running }; state = s }

-- a call of a sound state
unfoldable pub step_sound : State → Call → Stepped
step_sound s call = cond (eqb (number_of (verdict_of s call)) 0) (accepted s call) (refused s (runner s) (verdict_of s call))

-- a call of any state: 1 with running 255 if it is not sound
unfoldable pub step : State → Call → Stepped
step s call = cond (sound s) (step_sound s call) (refused s 255 NotSound)

-- a row that was taken apart: 17 comes before 1, and running is 255 if the state is not sound
unfoldable pub step_decoded : State → Option Call → Stepped
step_decoded s None = refused s (cond (sound s) (runner s) 255) WrongRow
step_decoded s (Some call) = step s call

-- a row of 8 bytes
unfoldable pub step_row : State → List ℕ → Stepped
step_row s row = step_decoded s (decoded row)
