-- Runs that show what document 01 says besides its marked examples, the mistakes that look right and that none of E1 to E12 breaks, and that deadlock can
-- happen; and what document 02 says in L2, what a stop gives, and in L5, when a timer expires and how many ticks a sound one has. Of each run what the
-- definitions show, and what is to be seen.
-- Assumes nothing.
use Rattle.std.specs.Prelude.{ℕ, zero, suc, ◌-◌, ◌*◌, cond, List, [], ◌∷◌, ◌++◌, get_or}
use Rattle.calls.specs.declared.Call.{Call}
use Rattle.calls.specs.declared.Call.TheVariants.{Start, CreateThread, CreateMutex, CreateCondition, Acquire, Wait, Broadcast, StartTimer, StopTimer, Tick}
use Rattle.calls.specs.declared.Kind.{Kind}
use Rattle.calls.specs.declared.Kind.TheVariants.{OneShot, Periodic}
use Rattle.rules.specs.Queues.{empty_set, queue}
use Rattle.rules.specs.State.{TimerState, one_shot, periodic, State, boot}
use Rattle.rules.specs.Effects.{with_timers}
use Rattle.rules.specs.Sound.{sound}
use Rattle.rules.specs.Step.{Stepped, step, runner}
use Rattle.rules.specs.Examples.{Example, from, answer, alone, times, at_count}

-- the running thread and who waits for mutex 0 at priority p
unfoldable pub runner_and_waiters : ℕ → Stepped → List ℕ
runner_and_waiters p r = runner r.state ∷ queue (get_or r.state.scheduler.sets.mutex 0 empty_set) p

-- 1 if the state is sound, then the answer
unfoldable pub sound_and_answer : Stepped → List ℕ
sound_and_answer r = cond (sound r.state) 1 0 ∷ answer r

-- threads 1 and 2 of base 2 wait on a condition variable tied to a free mutex of ceiling 6, and thread 0 runs
unfoldable pub both_wait : List Call
both_wait = CreateThread 2 ∷ CreateThread 2 ∷ CreateMutex 6 ∷ CreateCondition ∷ Start ∷ Acquire 0 ∷ Wait 0 0 ∷ Acquire 0 ∷ Wait 0 0 ∷ []

-- threads 1 and 2 of base 4 with mutexes of ceiling 4: thread 1 owns mutex 0, and since the tick thread 2 runs
unfoldable pub equals_sliced : List Call
equals_sliced = CreateThread 4 ∷ CreateThread 4 ∷ CreateMutex 4 ∷ CreateMutex 4 ∷ Start ∷ Acquire 0 ∷ Tick ∷ []

-- thread 1 starts timer 0, whose first expiry comes after n ticks, at tick count at
unfoldable pub timed : Kind → ℕ → ℕ → State
timed kind n at = (from (at_count at (from boot (alone 3)).state) (StartTimer 0 0 kind (record { 0 = (n - 1) * 1000 }) ∷ [])).state

-- the answer to its stop after so many ticks
unfoldable pub stop_after : ℕ → State → List ℕ
stop_after ticks s = answer (from s (times ticks Tick ++ (StopTimer 0 ∷ [])))

-- how many timers each of so many ticks expires
unfoldable pub expiries : ℕ → State → List ℕ
expiries zero s = []
expiries (suc ticks) s = let r = step s Tick in r.answer.given ∷ expiries ticks r.state

-- 1 if thread 1's state with this timer is sound
unfoldable pub sound_with : TimerState → ℕ → ℕ → List ℕ
sound_with state n left = cond (sound (with_timers (from boot (alone 3)).state (record { state = state; condition = 0; length = n; left = left } ∷ []))) 1 0 ∷ []

-- the table
unfoldable pub further : List Example
further =
    -- broadcast makes every waiter ready? two leave, the first owns the mutex and runs, the other waits for it
    record { shown = answer (from boot (both_wait ++ (Broadcast 0 ∷ []))); seen = 0 ∷ 2 ∷ 1 ∷ [] }
    ∷ record { shown = runner_and_waiters 2 (from boot (both_wait ++ (Broadcast 0 ∷ []))); seen = 1 ∷ 2 ∷ [] }
    -- "never blocks on a mutex of its own priority"? thread 2 waits, and thread 1 runs
    ∷ record { shown = runner_and_waiters 4 (from boot (equals_sliced ++ (Acquire 0 ∷ []))); seen = 1 ∷ 2 ∷ [] }
    -- mutexes waited for in a ring: each thread takes the other's, thread 0 runs, and the state is sound
    ∷ record { shown = sound_and_answer (from boot (equals_sliced ++ (Acquire 1 ∷ Tick ∷ Acquire 1 ∷ Acquire 0 ∷ []))); seen = 1 ∷ 0 ∷ 255 ∷ 0 ∷ [] }
    -- a stop gives the ticks left before it: all of them before any tick, which may be the most, and one fewer after each
    ∷ record { shown = stop_after 0 (timed OneShot 65535 0); seen = 0 ∷ 65535 ∷ 1 ∷ [] }
    ∷ record { shown = stop_after 0 (timed OneShot 257 0); seen = 0 ∷ 257 ∷ 1 ∷ [] }
    ∷ record { shown = stop_after 1 (timed OneShot 257 0); seen = 0 ∷ 256 ∷ 1 ∷ [] }
    ∷ record { shown = stop_after 2 (timed Periodic 257 0); seen = 0 ∷ 255 ∷ 1 ∷ [] }
    -- 1 after all ticks but the one at which it is due; at that one a periodic one has its repeat again, and a one-shot is stopped, which is 14
    ∷ record { shown = stop_after 2 (timed Periodic 3 0); seen = 0 ∷ 1 ∷ 1 ∷ [] }
    ∷ record { shown = stop_after 3 (timed Periodic 3 0); seen = 0 ∷ 2 ∷ 1 ∷ [] }
    ∷ record { shown = stop_after 3 (timed OneShot 3 0); seen = 14 ∷ 255 ∷ 1 ∷ [] }
    -- before its first expiry a periodic one may have one more than its repeat
    ∷ record { shown = stop_after 0 (timed Periodic 3 0); seen = 0 ∷ 3 ∷ 1 ∷ [] }
    -- across the count's wrap
    ∷ record { shown = stop_after 3 (timed OneShot 5 4294967294); seen = 0 ∷ 2 ∷ 1 ∷ [] }
    -- the first expiry after n ticks, the next ones after n - 1, or after 1 if that is 0; a one-shot has one
    ∷ record { shown = expiries 8 (timed Periodic 4 4294967294); seen = 0 ∷ 0 ∷ 0 ∷ 1 ∷ 0 ∷ 0 ∷ 1 ∷ 0 ∷ [] }
    ∷ record { shown = expiries 4 (timed Periodic 2 0); seen = 0 ∷ 1 ∷ 1 ∷ 1 ∷ [] }
    ∷ record { shown = expiries 4 (timed Periodic 1 0); seen = 1 ∷ 1 ∷ 1 ∷ 1 ∷ [] }
    ∷ record { shown = expiries 4 (timed OneShot 2 0); seen = 0 ∷ 1 ∷ 0 ∷ 0 ∷ [] }
    -- ticks left of a sound timer: to n of a one-shot, to n + 1 of a periodic one, to 65,535 of each, and n is 1 at least
    ∷ record { shown = sound_with one_shot 10 10 ++ sound_with one_shot 10 11; seen = 1 ∷ 0 ∷ [] }
    ∷ record { shown = sound_with periodic 10 11 ++ sound_with periodic 10 12 ++ sound_with periodic 10 0; seen = 1 ∷ 0 ∷ 0 ∷ [] }
    ∷ record { shown = sound_with periodic 65535 65535 ++ sound_with periodic 65535 65536; seen = 1 ∷ 0 ∷ [] }
    ∷ record { shown = sound_with periodic 1 2 ++ sound_with periodic 0 1 ++ sound_with one_shot 0 0; seen = 1 ∷ 0 ∷ 0 ∷ [] } ∷ []
