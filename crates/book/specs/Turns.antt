-- The thirteen calls on the plain book, from document 01: when each is refused, what it does, and the rule of three at its end.
-- Assumes nothing.
use Rattle.std.specs.Prelude.{Option, Some, None}
use Rattle.std.specs.Prelude.{ℕ, zero, suc, ◌+◌, ◌-◌, Bool, true, false, cond, not, ◌&&◌, ◌||◌, List, [], ◌∷◌, ◌++◌, length, set, eqb, ltb, leb, pos}
use Rattle.units.specs.Units.{outside, ticks_in, repeat_of, too_long}
use Rattle.calls.specs.declared.Call.{Call}
use Rattle.calls.specs.declared.Call.TheVariants.{Start, CreateThread, CreateMutex, CreateCondition, CreateTimer, Acquire, Release, Wait, Signal, Broadcast, StartTimer, StopTimer, Tick}
use Rattle.calls.specs.declared.Kind.{Kind}
use Rattle.calls.specs.declared.Kind.TheVariants.{OneShot, Periodic}
use Rattle.calls.specs.declared.Verdict.{Verdict}
use Rattle.calls.specs.declared.Verdict.TheVariants.{Done, Stopped, AlreadyStarted, NoSuchId, IdleCaller, OutOfRange, TableFull, AboveCeiling, NotOwner, CountFull, HoldingMore, TiedElsewhere, TimerRunning, TimerStopped, WrongRow}
use Rattle.calls.specs.declared.Answer.{Answer}
use Rattle.calls.specs.Answers.{number_of, nothing}
use Rattle.rules.specs.State.{running, ready, for_mutex, on_condition, Mutex, TimerState, stopped, one_shot, periodic}
use Rattle.book.specs.Book.{Book, Timer, Found, nobody, somebody, mutex, tied, timer, stopped_timer, with_threads, with_mutexes, with_ties, with_timers, with_runner, next_tick, now_started, stand, own, priority, stands_at, highest_earliest, marks_below, above, arrive, arrive_in_front}

-- ---- when a call is refused

-- how many mutexes of a list thread t owns
unfoldable pub owned_by : ℕ → List Mutex → ℕ
owned_by t [] = 0
owned_by t (m ∷ ms) = cond (eqb m.owner t) (suc (owned_by t ms)) (owned_by t ms)

-- whether the running thread owns mutex m
abbrev pub owns : Book → ℕ → Bool
owns b m = eqb (mutex b m).owner b.runner

-- whether a timer of this state runs
unfoldable pub runs : TimerState → Bool
runs stopped = false
runs one_shot = true
runs periodic = true

-- a timer's state by the kind it is started with
unfoldable pub kind_state : Kind → TimerState
kind_state OneShot = one_shot
kind_state Periodic = periodic

-- the n of a timer by the kind it is started with, where the length is n: a periodic one keeps the ticks from one expiry to the next (document 02, L5)
unfoldable pub kind_length : Kind → ℕ → ℕ
kind_length OneShot n = n
kind_length Periodic n = repeat_of n

-- why a call is refused: of all that apply the first in the order 2, 3, 4, 6, 7, 5, then by number; if none applies it is done.
-- A caller that owns the mutex of a wait owns another if it owns more than one
unfoldable pub verdict : Book → Call → Verdict
verdict b Start = cond b.started AlreadyStarted Done
verdict b (CreateThread p) = cond (outside 1 15 p) OutOfRange (cond (leb 32 (length b.threads)) TableFull Done)
verdict b (CreateMutex p) = cond (outside 1 15 p) OutOfRange (cond (leb 16 (length b.mutexes)) TableFull Done)
verdict b CreateCondition = cond (leb 16 (length b.ties)) TableFull Done
verdict b CreateTimer = cond (leb 32 (length b.timers)) TableFull Done
verdict b (Acquire m) =
    cond (not b.started) Stopped
    (cond (leb (length b.mutexes) m) NoSuchId
    (cond (eqb b.runner 0) IdleCaller
    (cond (not (owns b m) && ltb (mutex b m).ceiling (priority b b.runner)) AboveCeiling
    (cond (owns b m && eqb (mutex b m).count 255) CountFull Done))))
verdict b (Release m) =
    cond (not b.started) Stopped
    (cond (leb (length b.mutexes) m) NoSuchId
    (cond (not (owns b m)) NotOwner Done))
verdict b (Wait c m) =
    cond (not b.started) Stopped
    (cond (leb (length b.ties) c || leb (length b.mutexes) m) NoSuchId
    (cond (eqb b.runner 0) IdleCaller
    (cond (not (owns b m)) NotOwner
    (cond (ltb 1 (mutex b m).count || ltb 1 (owned_by b.runner b.mutexes)) HoldingMore
    (cond (not (eqb (tied b c) 255) && not (eqb (tied b c) m)) TiedElsewhere Done)))))
verdict b (Signal c) = cond (not b.started) Stopped (cond (leb (length b.ties) c) NoSuchId Done)
verdict b (Broadcast c) = cond (not b.started) Stopped (cond (leb (length b.ties) c) NoSuchId Done)
verdict b (StartTimer i c kind v) =
    cond (not b.started) Stopped
    (cond (leb (length b.timers) i || leb (length b.ties) c) NoSuchId
    (cond (too_long (ticks_in v.0)) OutOfRange
    (cond (runs (timer b i).state) TimerRunning Done)))
verdict b (StopTimer i) =
    cond (not b.started) Stopped
    (cond (leb (length b.timers) i) NoSuchId
    (cond (not (runs (timer b i).state)) TimerStopped Done))
verdict b Tick = cond (not b.started) Stopped Done

-- ---- what an accepted call does

-- the book that follows, and what is given
pub record Outcome : Type 0 where
  pub book : Book
  pub given : ℕ

-- nothing is given
abbrev pub plainly : Book → Outcome
plainly b = record { book = b; given = nothing }

-- the thread that was found runs
unfoldable pub run : Book → Found → Book
run b nobody = b
run b (somebody t) = with_runner (stand b t running (pos 0)) t

-- the first of the highest ready queue runs
abbrev pub run_first : Book → Book
run_first b = run b (highest_earliest b ready)

-- a new thread with base priority p is ready, its mark one above those of all others there
unfoldable pub create_thread : Book → ℕ → Book
create_thread b p = with_threads b (b.threads ++ (record { base = p; stands = ready; mark = above (marks_below b ready p (length b.threads)) } ∷ []))

-- the caller acquires mutex m: one more if it owns it, the first if it is free, else it waits
unfoldable pub acquire : Book → ℕ → Book
acquire b m =
    cond (owns b m) (own b m b.runner ((mutex b m).count + 1))
    (cond (eqb (mutex b m).owner 255) (own b m b.runner 1) (arrive b b.runner (for_mutex m)))

-- thread t becomes owner of mutex m with count 1 and is ready at its new priority
unfoldable pub become_owner : Book → ℕ → ℕ → Book
become_owner b m t = arrive (own b m t 1) t ready

-- mutex m goes to the waiter that was found, or is free
unfoldable pub hand_over : Book → ℕ → Found → Book
hand_over b m nobody = own b m 255 0
hand_over b m (somebody t) = become_owner b m t

-- the caller releases mutex m: a count above 1 falls by one, else the mutex goes to its highest, earliest waiter
unfoldable pub release : Book → ℕ → Book
release b m = cond (ltb 1 (mutex b m).count) (own b m b.runner ((mutex b m).count - 1)) (hand_over b m (highest_earliest b (for_mutex m)))

-- condition variable c is tied to mutex m
unfoldable pub tie : Book → ℕ → ℕ → Book
tie b c m = with_ties b (set b.ties c m)

-- mutex m is released, then the caller waits on condition variable c, which is tied to m
unfoldable pub wait : Book → ℕ → ℕ → Book
wait b c m = let r = release b m in arrive (tie r c m) r.runner (on_condition c)

-- thread t leaves a condition variable that is tied to mutex m: it owns the mutex if that is free, else it waits for it
unfoldable pub leave : Book → ℕ → ℕ → Book
leave b m t = cond (eqb (mutex b m).owner 255) (become_owner b m t) (arrive b t (for_mutex m))

-- the tie of condition variable c ends if nobody is found there
unfoldable pub untie : Book → ℕ → Found → Book
untie b c nobody = tie b c 255
untie b c (somebody t) = b

-- the waiter that was found leaves condition variable c, and one thread left; with none nothing happens
unfoldable pub wake : Book → ℕ → Found → Outcome
wake b c nobody = record { book = b; given = 0 }
wake b c (somebody t) = let l = leave b (tied b c) t in record { book = untie l c (highest_earliest l (on_condition c)); given = 1 }

-- the highest, earliest waiter leaves
abbrev pub signal : Book → ℕ → Outcome
signal b c = wake b c (highest_earliest b (on_condition c))

-- n signals; those past the last waiter do nothing
unfoldable pub signals : ℕ → Book → ℕ → Outcome
signals zero b c = record { book = b; given = 0 }
signals (suc n) b c = let s = signal b c in let others = signals n s.book c in record { book = others.book; given = s.given + others.given }

-- a timer after it was due: a one-shot stops, a periodic one is due again its own n ticks later
unfoldable pub renewed : Timer → TimerState → Timer
renewed x stopped = x
renewed x one_shot = stopped_timer
renewed x periodic = record { state = periodic; condition = x.condition; length = x.length; due = x.due + x.length }

-- timer i, if it is now due, signals its condition variable, and one timer expired
unfoldable pub expire : Book → ℕ → Outcome
expire b i =
    let x = timer b i in
    cond (runs x.state && eqb x.due b.count)
    (record { book = (signal (with_timers b (set b.timers i (renewed x x.state))) x.condition).book; given = 1 })
    (record { book = b; given = 0 })

-- each timer below n that is now due, in order of id
unfoldable pub expire_below : ℕ → Book → Outcome
expire_below zero b = record { book = b; given = 0 }
expire_below (suc n) b = let o = expire_below n b in let e = expire o.book n in record { book = e.book; given = o.given + e.given }

-- what each call does, before the rule of three; a stop gives the ticks from now to the one at which the timer is due (document 02, L2)
unfoldable pub outcome : Book → Call → Outcome
outcome b Start = plainly (run_first (now_started b))
outcome b (CreateThread p) = record { book = create_thread b p; given = length b.threads }
outcome b (CreateMutex p) = record { book = with_mutexes b (b.mutexes ++ (record { ceiling = p; owner = 255; count = 0 } ∷ [])); given = length b.mutexes }
outcome b CreateCondition = record { book = with_ties b (b.ties ++ (255 ∷ [])); given = length b.ties }
outcome b CreateTimer = record { book = with_timers b (b.timers ++ (stopped_timer ∷ [])); given = length b.timers }
outcome b (Acquire m) = plainly (acquire b m)
outcome b (Release m) = plainly (release b m)
outcome b (Wait c m) = plainly (wait b c m)
outcome b (Signal c) = signal b c
outcome b (Broadcast c) = signals (length b.threads) b c
outcome b (StartTimer i c kind v) =
    let n = ticks_in v.0 in
    plainly (with_timers b (set b.timers i (record { state = kind_state kind; condition = c; length = kind_length kind n; due = b.count + n })))
outcome b (StopTimer i) = record { book = with_timers b (set b.timers i stopped_timer); given = (timer b i).due - b.count }
outcome b Tick = expire_below (length b.timers) (next_tick b)

-- ---- the rule of three

-- against the first of the highest ready queue: a higher one preempts, at a tick an equal one takes its turn
unfoldable pub turn_to : Bool → Book → Found → Book
turn_to at_tick b nobody = b
turn_to at_tick b (somebody t) =
    cond (ltb (priority b b.runner) (priority b t)) (run_first (arrive_in_front b b.runner))
    (cond (at_tick && eqb (priority b b.runner) (priority b t)) (run_first (arrive b b.runner ready)) b)

-- while started: if the running thread has begun to wait the first ready one runs, else it may be preempted
unfoldable pub run_next : Bool → Book → Book
run_next at_tick b = cond b.started (cond (stands_at b running b.runner) (turn_to at_tick b (highest_earliest b ready)) (run_first b)) b

-- whether a call is the tick
unfoldable pub is_tick : Call → Bool
is_tick Start = false
is_tick (CreateThread p) = false
is_tick (CreateMutex p) = false
is_tick CreateCondition = false
is_tick CreateTimer = false
is_tick (Acquire m) = false
is_tick (Release m) = false
is_tick (Wait c m) = false
is_tick (Signal c) = false
is_tick (Broadcast c) = false
is_tick (StartTimer i c kind v) = false
is_tick (StopTimer i) = false
is_tick Tick = true

-- ---- calls and rows

-- an answer, and the book that follows
pub record Turn : Type 0 where
  pub answer : Answer
  pub book : Book

-- the three numbers: the answer, given, and the thread running afterwards, 255 if stopped
abbrev pub answered : Verdict → ℕ → Book → Turn
answered v given b = record { answer = record { number = number_of v; given = given; running = cond b.started b.runner 255 }; book = b }

-- one call: refused, the book is unchanged; else what it does, and the rule of three once at its end
unfoldable pub turn : Book → Call → Turn
turn b call =
    let v = verdict b call in
    let o = outcome b call in
    cond (eqb (number_of v) 0) (answered Done o.given (run_next (is_tick call) o.book)) (answered v nothing b)

-- a row taken apart: one of wrong form is answered 17
unfoldable pub turn_of : Book → Option Call → Turn
turn_of b (Some call) = turn b call
turn_of b None = answered WrongRow nothing b

-- the answers to any number of calls and rows of wrong form
unfoldable pub book_answers : Book → List (Option Call) → List Answer
book_answers b [] = []
book_answers b (row ∷ rows) = (turn_of b row).answer ∷ book_answers (turn_of b row).book rows

-- the book after them
unfoldable pub book_final : Book → List (Option Call) → Book
book_final b [] = b
book_final b (row ∷ rows) = book_final (turn_of b row).book rows
