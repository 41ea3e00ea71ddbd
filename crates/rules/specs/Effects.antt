-- What each of the thirteen calls does when it is accepted, before the next thread is chosen, and what it gives.
-- Assumes nothing.
use Rattle.std.specs.Prelude.{ℕ, zero, suc, ◌+◌, ◌-◌, ◌%◌, Bool, true, false, cond, ◌&&◌, List, [], ◌∷◌, ◌++◌, map, set, length, eqb, ltb}
use Rattle.units.specs.Units.{ticks_in, repeat_of}
use Rattle.calls.specs.declared.Call.{Call}
use Rattle.calls.specs.declared.Call.TheVariants.{Start, CreateThread, CreateMutex, CreateCondition, CreateTimer, Acquire, Release, Wait, Signal, Broadcast, StartTimer, StopTimer, Tick}
use Rattle.calls.specs.declared.Kind.{Kind}
use Rattle.calls.specs.declared.Kind.TheVariants.{OneShot, Periodic}
use Rattle.rules.specs.Queues.{First, nobody, somebody, empty_set}
use Rattle.rules.specs.State.{ready, for_mutex, on_condition, TimerState, stopped, one_shot, periodic, Timer, Scheduler, State, stopped_timer, mutex, tied, timer, with_threads, with_mutexes, with_ties, with_started, with_rows, own, tie, first_at, arrive, depart}
use Rattle.rules.specs.Next.{run_first}

-- ---- 2 to 4: creating; a new id is the number of those there are

-- a thread of base b, which is ready
unfoldable pub thread_created : Scheduler → ℕ → Scheduler
thread_created h b =
    arrive (with_rows h (with_threads h.rows (h.rows.threads ++ (record { base = b; stands = ready } ∷ [])))) (length h.rows.threads) ready

-- a mutex of ceiling c, unowned
unfoldable pub mutex_created : Scheduler → ℕ → Scheduler
mutex_created h c = record {
  rows = with_mutexes h.rows (h.rows.mutexes ++ (record { ceiling = c; owner = 255; count = 0 } ∷ []));
  sets = record { ready = h.sets.ready; mutex = h.sets.mutex ++ (empty_set ∷ []); condition = h.sets.condition };
}

-- a condition variable, tied to none
unfoldable pub condition_created : Scheduler → Scheduler
condition_created h = record {
  rows = with_ties h.rows (h.rows.ties ++ (255 ∷ []));
  sets = record { ready = h.sets.ready; mutex = h.sets.mutex; condition = h.sets.condition ++ (empty_set ∷ []) };
}

-- ---- 6 and 7: mutexes

-- if the caller owns it, its count grows by one; if it is free, the caller owns it with count 1; if another owns it, the caller waits
unfoldable pub acquired : Scheduler → ℕ → Scheduler
acquired h m =
    let caller = h.rows.runner in
    let mine = mutex h.rows m in
    let again = with_rows h (own h.rows m caller (mine.count + 1)) in
    let taken = with_rows h (own h.rows m caller 1) in
    cond (eqb mine.owner caller) again (cond (eqb mine.owner 255) taken (arrive h caller (for_mutex m)))

-- mutex m goes to the waiter named, with count 1, and that thread is ready at its new priority; with no waiter it is free
unfoldable pub passed_to : Scheduler → ℕ → First → Scheduler
passed_to h m nobody = with_rows h (own h.rows m 255 0)
passed_to h m (somebody p t) = arrive (with_rows (depart h (for_mutex m) p) (own h.rows m t 1)) t ready

-- a count above 1 falls by one, else the mutex goes to its highest, earliest waiter
unfoldable pub released : Scheduler → ℕ → Scheduler
released h m =
    let mine = mutex h.rows m in
    let fewer = with_rows h (own h.rows m mine.owner (mine.count - 1)) in
    let passed = passed_to h m (first_at h (for_mutex m)) in
    cond (ltb 1 mine.count) fewer passed

-- ---- 8 to 10: condition variables

-- mutex m is released as in 7, then the caller waits on c at the priority left to it, and c is tied to m
unfoldable pub waited : Scheduler → ℕ → ℕ → Scheduler
waited h c m =
    let g = released h m in
    arrive (with_rows g (tie g.rows c m)) h.rows.runner (on_condition c)

-- thread t, which has left a condition variable tied to m: if m is free, t becomes owner with count 1 and is ready; else it waits for m
unfoldable pub woken : Scheduler → ℕ → ℕ → Scheduler
woken h m t =
    let owns = arrive (with_rows h (own h.rows m t 1)) t ready in
    cond (eqb (mutex h.rows m).owner 255) owns (arrive h t (for_mutex m))

-- the tie of c ends with the last waiter
unfoldable pub untied : Scheduler → ℕ → First → Scheduler
untied h c nobody = with_rows h (tie h.rows c 255)
untied h c (somebody p t) = h

-- the waiter named leaves condition variable c; with no waiter nothing happens
unfoldable pub signalled_to : Scheduler → ℕ → First → Scheduler
signalled_to h c nobody = h
signalled_to h c (somebody p t) =
    let g = depart h (on_condition c) p in
    woken (untied g c (first_at g (on_condition c))) (tied h.rows c) t

-- the highest, earliest waiter leaves
unfoldable pub signalled : Scheduler → ℕ → Scheduler
signalled h c = signalled_to h c (first_at h (on_condition c))

-- how many leave at one signal
abbrev pub leaver : First → ℕ
leaver nobody = 0
leaver (somebody p t) = 1

-- n signals to c; 32 are enough for all who can wait there
unfoldable pub signalled_times : ℕ → Scheduler → ℕ → Scheduler
signalled_times zero h c = h
signalled_times (suc n) h c = signalled_times n (signalled h c) c

-- how many threads leave c at n signals
unfoldable pub leavers : ℕ → Scheduler → ℕ → ℕ
leavers zero h c = 0
leavers (suc n) h c = leaver (first_at h (on_condition c)) + leavers n (signalled h c) c

-- ---- 11 to 13: timers and the tick

-- the timer state of a kind
abbrev pub state_of : Kind → TimerState
state_of OneShot = one_shot
state_of Periodic = periodic

-- the n of a timer's row, where the length is n ticks: a periodic one's row keeps the repeat (document 02, L5)
abbrev pub length_kept : Kind → ℕ → ℕ
length_kept OneShot n = n
length_kept Periodic n = repeat_of n

-- a timer of this kind as it is started with condition variable c: its first expiry comes after n ticks
abbrev pub started_timer : ℕ → Kind → ℕ → Timer
started_timer c kind n = record { state = state_of kind; condition = c; length = length_kept kind n; left = n }

-- whether a timer of this state runs
abbrev pub goes : TimerState → Bool
goes stopped = false
goes one_shot = true
goes periodic = true

-- whether a timer is due at the next tick
abbrev pub is_due : Timer → Bool
is_due x = goes x.state && eqb x.left 1

-- a timer that was due: a one-shot stops, a periodic one is due again its row's n ticks later
abbrev pub after_due : TimerState → Timer → Timer
after_due stopped x = x
after_due one_shot x = stopped_timer
after_due periodic x = record { state = periodic; condition = x.condition; length = x.length; left = x.length }

-- a timer after one more tick
unfoldable pub ticked : Timer → Timer
ticked x = cond (is_due x) (after_due x.state x) (record { state = x.state; condition = x.condition; length = x.length; left = x.left - 1 })

-- the condition variables of the timers due at the next tick, in order of id
unfoldable pub due_conditions : List Timer → List ℕ
due_conditions [] = []
due_conditions (x ∷ xs) = cond (is_due x) (x.condition ∷ due_conditions xs) (due_conditions xs)

-- a signal to each of these condition variables
unfoldable pub signalled_each : Scheduler → List ℕ → Scheduler
signalled_each h [] = h
signalled_each h (c ∷ cs) = signalled_each (signalled h c) cs

-- the count after a tick: 0 to 4,294,967,295, then 0 again
abbrev pub next_count : ℕ → ℕ
next_count n = (n + 1) % 4294967296

-- ---- the thirteen calls

-- the state with another scheduler
abbrev pub with_scheduler : State → Scheduler → State
with_scheduler s h = record { scheduler = h; count = s.count; timers = s.timers }

-- the state with other timers
abbrev pub with_timers : State → List Timer → State
with_timers s x = record { scheduler = s.scheduler; count = s.count; timers = x }

-- what an accepted call does
unfoldable pub effect : State → Call → State
effect s Start = let h = run_first s.scheduler in with_scheduler s (with_rows h (with_started h.rows))
effect s (CreateThread base) = with_scheduler s (thread_created s.scheduler base)
effect s (CreateMutex ceiling) = with_scheduler s (mutex_created s.scheduler ceiling)
effect s CreateCondition = with_scheduler s (condition_created s.scheduler)
effect s CreateTimer = with_timers s (s.timers ++ (stopped_timer ∷ []))
effect s (Acquire m) = with_scheduler s (acquired s.scheduler m)
effect s (Release m) = with_scheduler s (released s.scheduler m)
effect s (Wait c m) = with_scheduler s (waited s.scheduler c m)
effect s (Signal c) = with_scheduler s (signalled s.scheduler c)
effect s (Broadcast c) = with_scheduler s (signalled_times 32 s.scheduler c)
effect s (StartTimer i c kind v) = with_timers s (set s.timers i (started_timer c kind (ticks_in v.0)))
effect s (StopTimer i) = with_timers s (set s.timers i stopped_timer)
effect s Tick = record {
  scheduler = signalled_each s.scheduler (due_conditions s.timers);
  count = next_count s.count;
  timers = map ticked s.timers;
}

-- the new id for 2 to 5, threads that left the condition variable for 9 and 10, the ticks left to the timer before it is stopped for 12 (document 02,
-- L2), timers expired for 13, else 255
unfoldable pub given : State → Call → ℕ
given s Start = 255
given s (CreateThread base) = length s.scheduler.rows.threads
given s (CreateMutex ceiling) = length s.scheduler.rows.mutexes
given s CreateCondition = length s.scheduler.rows.ties
given s CreateTimer = length s.timers
given s (Acquire m) = 255
given s (Release m) = 255
given s (Wait c m) = 255
given s (Signal c) = leaver (first_at s.scheduler (on_condition c))
given s (Broadcast c) = leavers 32 s.scheduler c
given s (StartTimer i c kind v) = 255
given s (StopTimer i) = (timer s.timers i).left
given s Tick = length (due_conditions s.timers)
