-- Document 01's marked examples of the calls, E2, E3 and E5 to E12, as one table: what the definitions show, and what the document says is seen. E3 has
-- the numbers of document 02, L5, and n = 1 is 0 microseconds by them.
-- The crate examples has the whole table, with those of the record and of the wheel.
-- Assumes nothing.
use Rattle.std.specs.Prelude.{ℕ, zero, suc, List, [], ◌∷◌, ◌++◌}
use Rattle.calls.specs.declared.Call.{Call}
use Rattle.calls.specs.declared.Call.TheVariants.{Start, CreateThread, CreateMutex, CreateCondition, CreateTimer, Acquire, Release, Wait, Signal, StartTimer, Tick}
use Rattle.calls.specs.declared.Kind.{Kind}
use Rattle.calls.specs.declared.Kind.TheVariants.{OneShot, Periodic}
use Rattle.rules.specs.Queues.{queue}
use Rattle.rules.specs.State.{State, mutex, timer, priority, boot}
use Rattle.rules.specs.Step.{Stepped, step, runner}

-- an example: what is shown, and what is to be seen
pub record Example : Type 0 where
  pub shown : List ℕ
  pub seen : List ℕ

-- ---- a state after calls, and what is looked at in it

-- the last answer and the state after a list of calls
unfoldable pub last_of : Stepped → List Call → Stepped
last_of r [] = r
last_of r (call ∷ calls) = last_of (step r.state call) calls

-- a list of calls from a state
abbrev pub from : State → List Call → Stepped
from s calls = last_of (record { answer = record { number = 0; given = 255; running = runner s }; state = s }) calls

-- the three numbers of the last answer
unfoldable pub answer : Stepped → List ℕ
answer r = r.answer.number ∷ r.answer.given ∷ r.answer.running ∷ []

-- the running thread and the ready queue of priority p
unfoldable pub runner_and_queue : ℕ → Stepped → List ℕ
runner_and_queue p r = runner r.state ∷ queue r.state.scheduler.sets.ready p

-- the priority of thread 1
unfoldable pub priority_of1 : Stepped → List ℕ
priority_of1 r = priority r.state.scheduler.rows 1 ∷ []

-- the n that timer 0 keeps and its ticks left, then the answer
unfoldable pub timer_and_answer : Stepped → List ℕ
timer_and_answer r = (timer r.state.timers 0).length ∷ (timer r.state.timers 0).left ∷ answer r

-- the count of mutex 0, then the answer
unfoldable pub count_and_answer : Stepped → List ℕ
count_and_answer r = (mutex r.state.scheduler.rows 0).count ∷ answer r

-- the tick count, then the answer
unfoldable pub tick_count_and_answer : Stepped → List ℕ
tick_count_and_answer r = r.state.count ∷ answer r

-- ---- the calls that lead to the examples

-- thread 1 of base b runs, with mutexes of ceilings 5 and 9, a condition variable and a timer
unfoldable pub alone : ℕ → List Call
alone b = CreateThread b ∷ CreateMutex 5 ∷ CreateMutex 9 ∷ CreateCondition ∷ CreateTimer ∷ Start ∷ []

-- thread 1 starts timer 0 with v microseconds
unfoldable pub set_for : Kind → ℕ → List Call
set_for kind v = alone 3 ++ (StartTimer 0 0 kind (record { 0 = v }) ∷ [])

-- thread 1 runs and two others are ready behind it, all of base 4
unfoldable pub three : List Call
three = CreateThread 4 ∷ CreateThread 4 ∷ CreateThread 4 ∷ Start ∷ []

-- thread 1 of base 2 waits on a condition variable tied to a free mutex of ceiling 6, and thread 2 of base b runs
unfoldable pub one_waits : ℕ → List Call
one_waits b = CreateThread 2 ∷ CreateMutex 6 ∷ CreateCondition ∷ Start ∷ Acquire 0 ∷ Wait 0 0 ∷ CreateThread b ∷ []

-- a call n times
unfoldable pub times : ℕ → Call → List Call
times zero call = []
times (suc n) call = call ∷ times n call

-- the state at tick count n
unfoldable pub at_count : ℕ → State → State
at_count n s = record { scheduler = s.scheduler; count = n; timers = s.timers }

-- ---- the table

-- what is shown and what is to be seen
unfoldable pub table : List Example
table =
    -- E2 start at boot
    record { shown = answer (from boot (Start ∷ [])); seen = 0 ∷ 255 ∷ 0 ∷ [] }
    -- E3 0, 1, 1,000, 1,999, 65,534,000 and 65,534,001 microseconds
    ∷ record { shown = timer_and_answer (from boot (set_for OneShot 0)); seen = 1 ∷ 1 ∷ 0 ∷ 255 ∷ 1 ∷ [] }
    ∷ record { shown = timer_and_answer (from boot (set_for OneShot 1)); seen = 2 ∷ 2 ∷ 0 ∷ 255 ∷ 1 ∷ [] }
    ∷ record { shown = timer_and_answer (from boot (set_for OneShot 1000)); seen = 2 ∷ 2 ∷ 0 ∷ 255 ∷ 1 ∷ [] }
    ∷ record { shown = timer_and_answer (from boot (set_for OneShot 1999)); seen = 3 ∷ 3 ∷ 0 ∷ 255 ∷ 1 ∷ [] }
    ∷ record { shown = timer_and_answer (from boot (set_for OneShot 65534000)); seen = 65535 ∷ 65535 ∷ 0 ∷ 255 ∷ 1 ∷ [] }
    ∷ record { shown = answer (from boot (set_for OneShot 65534001)); seen = 6 ∷ 255 ∷ 1 ∷ [] }
    -- and of periodic timers, whose rows keep the repeat
    ∷ record { shown = timer_and_answer (from boot (set_for Periodic 0)); seen = 1 ∷ 1 ∷ 0 ∷ 255 ∷ 1 ∷ [] }
    ∷ record { shown = timer_and_answer (from boot (set_for Periodic 1)); seen = 1 ∷ 2 ∷ 0 ∷ 255 ∷ 1 ∷ [] }
    ∷ record { shown = timer_and_answer (from boot (set_for Periodic 1999)); seen = 2 ∷ 3 ∷ 0 ∷ 255 ∷ 1 ∷ [] }
    ∷ record { shown = timer_and_answer (from boot (set_for Periodic 65534000)); seen = 65534 ∷ 65535 ∷ 0 ∷ 255 ∷ 1 ∷ [] }
    ∷ record { shown = answer (from boot (set_for Periodic 4294967295)); seen = 6 ∷ 255 ∷ 1 ∷ [] }
    -- E5 count 4,294,967,295, n = 1: the next tick makes 0 and expires it
    ∷ record {
      shown = tick_count_and_answer (from (at_count 4294967295 (from boot (set_for OneShot 0)).state) (Tick ∷ []));
      seen = 0 ∷ 0 ∷ 1 ∷ 1 ∷ [];
    }
    -- E6 base 3 takes ceiling 5, then 9; the 5 released first; then the 9 released
    ∷ record { shown = priority_of1 (from boot (alone 3 ++ (Acquire 0 ∷ Acquire 1 ∷ []))); seen = 9 ∷ [] }
    ∷ record { shown = priority_of1 (from boot (alone 3 ++ (Acquire 0 ∷ Acquire 1 ∷ Release 0 ∷ []))); seen = 9 ∷ [] }
    ∷ record { shown = priority_of1 (from boot (alone 3 ++ (Acquire 0 ∷ Acquire 1 ∷ Release 0 ∷ Release 1 ∷ []))); seen = 3 ∷ [] }
    -- E7 ceiling 5: base 6, base 5
    ∷ record { shown = answer (from boot (alone 6 ++ (Acquire 0 ∷ []))); seen = 8 ∷ 255 ∷ 1 ∷ [] }
    ∷ record { shown = answer (from boot (alone 5 ++ (Acquire 0 ∷ []))); seen = 0 ∷ 255 ∷ 1 ∷ [] }
    -- E8 owner of ceilings 5 and 9 takes the 5 again; at count 255
    ∷ record { shown = count_and_answer (from boot (alone 3 ++ (Acquire 0 ∷ Acquire 1 ∷ Acquire 0 ∷ []))); seen = 2 ∷ 0 ∷ 255 ∷ 1 ∷ [] }
    ∷ record { shown = count_and_answer (from boot (alone 3 ++ (Acquire 0 ∷ Acquire 1 ∷ times 255 (Acquire 0)))); seen = 255 ∷ 10 ∷ 255 ∷ 1 ∷ [] }
    -- E9 tick, running 1, queue 2, 3, all base 4
    ∷ record { shown = runner_and_queue 4 (from boot (three ++ (Tick ∷ []))); seen = 2 ∷ 3 ∷ 1 ∷ [] }
    -- E10 running 1, queue 2, both base 4; thread 3 created, base 7
    ∷ record { shown = runner_and_queue 4 (from boot (CreateThread 4 ∷ CreateThread 4 ∷ Start ∷ CreateThread 7 ∷ [])); seen = 3 ∷ 1 ∷ 2 ∷ [] }
    -- E11 signal, waiter base 2, free tied mutex of ceiling 6: the caller's priority 5, then 6
    ∷ record { shown = answer (from boot (one_waits 5 ++ (Signal 0 ∷ []))); seen = 0 ∷ 1 ∷ 1 ∷ [] }
    ∷ record { shown = runner_and_queue 6 (from boot (one_waits 6 ++ (Signal 0 ∷ []))); seen = 2 ∷ 1 ∷ [] }
    -- E12 wait owning two mutexes
    ∷ record { shown = answer (from boot (alone 3 ++ (Acquire 0 ∷ Acquire 1 ∷ Wait 0 0 ∷ []))); seen = 11 ∷ 255 ∷ 1 ∷ [] } ∷ []
