-- What the engine's functions make of the values that they are handed: the code's promises cite these. The laws of proofs/ carry them to
-- document 01's definition. An id is taken modulo the size of its table.
-- Assumes nothing.
use Rattle.std.specs.Prelude.{Option, Some, None}
use Rattle.std.specs.Prelude.{ℕ, zero, suc, ◌+◌, ◌%◌, Bool, true, false, cond, List, get_or, set, replicate, eqb, leb}
use Rattle.units.specs.declared.Micros.{Micros}
use Rattle.units.specs.declared.Ticks.{Ticks}
use Rattle.units.specs.Units.{in_ticks, length_of}
use Rattle.queue.specs.Linking.{empty_links, empty_queues}
use Rattle.value_tables.specs.Tables.{arrive_model}
use Rattle.value_effects.specs.declared.Scheduler.{Scheduler}
use Rattle.value_effects.specs.Effects as scheduler
use Rattle.wheel.specs.declared.Wheel.{Wheel}
use Rattle.wheel.specs.Hung as hung
use Rattle.wheel.specs.Promise.{wheel_of, started_in, stopped_in, left_in, ticked_in, ids_of, first, rest}
use Rattle.calls.specs.declared.Call.{Call}
use Rattle.calls.specs.declared.Call.TheVariants.{Start, CreateThread, CreateMutex, CreateCondition, CreateTimer, Acquire, Release, Wait, Signal, Broadcast, StartTimer, StopTimer, Tick}
use Rattle.calls.specs.declared.Kind.{Kind}
use Rattle.calls.specs.declared.Kind.TheVariants.{OneShot, Periodic}
use Rattle.calls.specs.declared.Verdict.{Verdict}
use Rattle.calls.specs.declared.Verdict.TheVariants.{Stopped}
use Rattle.calls.specs.Answers.{number_of}
use Rattle.rules.specs.Effects.{length_kept}
use Rattle.refusals.specs.Verdicts.{created_verdict, room_verdict, start_verdict, acquire_verdict, release_verdict, held_verdict, ids_verdict, id_verdict, delay_verdict, stop_verdict, first_verdict, owned_in}
use Rattle.value_engine.specs.declared.Timer.{Timer}
use Rattle.value_engine.specs.declared.Engine.{Engine}
use Rattle.value_engine.specs.declared.Effect.{Effect}
use Rattle.value_engine.specs.declared.Stepped.{Stepped}

-- ---- small readings

-- the timer state of a kind
abbrev pub kind_code : Kind → ℕ
kind_code OneShot = 1
kind_code Periodic = 2

-- the row of a stopped timer
abbrev pub stopped_row : Timer
stopped_row = record { state = 0; condition = 255; length = in_ticks 0 }

-- a row that is not there
abbrev pub no_timer : Timer
no_timer = record { state = 0; condition = 0; length = in_ticks 0 }

-- the row of timer i
abbrev pub timer_of : Engine → ℕ → Timer
timer_of x i = get_or x.timers (i % 32) no_timer

-- ---- the engine with one part changed

-- the engine with another scheduler
abbrev pub with_scheduler : Engine → Scheduler → Engine
with_scheduler x s = record { scheduler = s; timers = x.timers; wheel = x.wheel; started = x.started; threads = x.threads; mutexes = x.mutexes; conditions = x.conditions; timercount = x.timercount; count = x.count }

-- the engine with another row of timer i, and another wheel
abbrev pub with_timer : Engine → ℕ → Timer → Wheel → Engine
with_timer x i r w = record { scheduler = x.scheduler; timers = set x.timers (i % 32) r; wheel = w; started = x.started; threads = x.threads; mutexes = x.mutexes; conditions = x.conditions; timercount = x.timercount; count = x.count }

-- the engine with another wheel
abbrev pub with_wheel : Engine → Wheel → Engine
with_wheel x w = record { scheduler = x.scheduler; timers = x.timers; wheel = w; started = x.started; threads = x.threads; mutexes = x.mutexes; conditions = x.conditions; timercount = x.timercount; count = x.count }

-- the scheduler is stopped, thread 0 is ready, nothing else exists, the tick count is 0
unfoldable pub boot_model : Engine
boot_model = record {
  scheduler = record {
    threads = arrive_model (record { rows = replicate 32 (record { base = 0; priority = 0; state = 2; object = 255 }); links = empty_links; ready = empty_queues }) 0;
    mutexes = replicate 16 (record { ceiling = 0; owner = 255; count = 0 });
    formutex = replicate 16 empty_queues;
    ties = replicate 16 255;
    oncondition = replicate 16 empty_queues;
    running = 255;
  };
  timers = replicate 32 stopped_row;
  wheel = wheel_of (hung.empty 0);
  started = false;
  threads = 1;
  mutexes = 0;
  conditions = 0;
  timercount = 0;
  count = 0;
}

-- ---- answers

-- a refused call: nothing changes, given is 255
unfoldable pub refused_model : Engine → Verdict → Stepped
refused_model x v = record { engine = x; answer = record { number = number_of v; given = 255; running = x.scheduler.running } }

-- an accepted call whose effect is done: while started the next thread is chosen
unfoldable pub answered_model : Engine → ℕ → Bool → Stepped
answered_model x given tick =
    let chosen = scheduler.choose_next_model x.scheduler tick in
    cond x.started (record { engine = with_scheduler x chosen; answer = record { number = 0; given = given; running = chosen.running } })
    (record { engine = x; answer = record { number = 0; given = given; running = x.scheduler.running } })

-- a call by its verdict: accepted with an effect and what it gives, or refused
abbrev pub judged : Verdict → Engine → Engine → ℕ → Stepped
judged v x e given = cond (eqb (number_of v) 0) (answered_model e given false) (refused_model x v)

-- ---- the thirteen calls

-- start
unfoldable pub start_model : Engine → Stepped
start_model x = judged (start_verdict x.started) x
    (record { scheduler = scheduler.run_first_model x.scheduler; timers = x.timers; wheel = x.wheel; started = true; threads = x.threads; mutexes = x.mutexes; conditions = x.conditions; timercount = x.timercount; count = x.count }) 255

-- create a thread
unfoldable pub create_thread_model : Engine → ℕ → Stepped
create_thread_model x base = judged (created_verdict base x.threads 32) x
    (record { scheduler = scheduler.create_model x.scheduler x.threads base; timers = x.timers; wheel = x.wheel; started = x.started; threads = x.threads % 32 + 1; mutexes = x.mutexes; conditions = x.conditions; timercount = x.timercount; count = x.count }) x.threads

-- create a mutex
unfoldable pub create_mutex_model : Engine → ℕ → Stepped
create_mutex_model x ceiling = judged (created_verdict ceiling x.mutexes 16) x
    (record { scheduler = scheduler.create_mutex_model x.scheduler x.mutexes ceiling; timers = x.timers; wheel = x.wheel; started = x.started; threads = x.threads; mutexes = x.mutexes % 16 + 1; conditions = x.conditions; timercount = x.timercount; count = x.count }) x.mutexes

-- create a condition variable
unfoldable pub create_condition_model : Engine → Stepped
create_condition_model x = judged (room_verdict x.conditions 16) x
    (record { scheduler = x.scheduler; timers = x.timers; wheel = x.wheel; started = x.started; threads = x.threads; mutexes = x.mutexes; conditions = x.conditions % 16 + 1; timercount = x.timercount; count = x.count }) x.conditions

-- create a timer
unfoldable pub create_timer_model : Engine → Stepped
create_timer_model x = judged (room_verdict x.timercount 32) x
    (record { scheduler = x.scheduler; timers = x.timers; wheel = x.wheel; started = x.started; threads = x.threads; mutexes = x.mutexes; conditions = x.conditions; timercount = x.timercount % 32 + 1; count = x.count }) x.timercount

-- acquire mutex m
unfoldable pub acquire_model : Engine → ℕ → Stepped
acquire_model x m =
    let s = x.scheduler in
    judged (acquire_verdict x.started x.mutexes m s.running (scheduler.mutex_of s m) (scheduler.thread_row_model s s.running).priority) x (with_scheduler x (scheduler.acquire_model s m)) 255

-- release mutex m
unfoldable pub release_model : Engine → ℕ → Stepped
release_model x m =
    let s = x.scheduler in
    judged (release_verdict x.started x.mutexes m s.running (scheduler.mutex_of s m).owner) x (with_scheduler x (scheduler.release_model s m)) 255

-- wait on condition variable c with mutex m
unfoldable pub wait_model : Engine → ℕ → ℕ → Stepped
wait_model x c m =
    let s = x.scheduler in
    judged (first_verdict (ids_verdict x.started x.conditions c x.mutexes m) (held_verdict m s.running (scheduler.mutex_of s m) (owned_in s.mutexes s.running) (get_or s.ties (c % 16) 0)))
    x (with_scheduler x (scheduler.wait_model s c m)) 255

-- signal condition variable c
unfoldable pub signal_model : Engine → ℕ → Stepped
signal_model x c =
    let g = scheduler.signal_model x.scheduler c in
    judged (id_verdict x.started x.conditions c) x (with_scheduler x g.scheduler) g.left

-- broadcast condition variable c
unfoldable pub broadcast_model : Engine → ℕ → Stepped
broadcast_model x c =
    let g = scheduler.broadcast_model 32 0 x.scheduler c in
    judged (id_verdict x.started x.conditions c) x (with_scheduler x g.scheduler) g.left

-- the engine with timer id started for condition variable c: first due after this length, which its row keeps, or a periodic one's the repeat; out of
-- range nothing changes
abbrev pub timer_started : Engine → ℕ → ℕ → Kind → Option Ticks → Engine
timer_started x id c kind None = x
timer_started x id c kind (Some n) = with_timer x id (record { state = kind_code kind; condition = c; length = in_ticks (length_kept kind n.0) }) (started_in x.wheel id n.0)

-- start timer id for condition variable c
unfoldable pub start_timer_model : Engine → ℕ → ℕ → Kind → Micros → Stepped
start_timer_model x id c kind v =
    judged (first_verdict (ids_verdict x.started x.timercount id x.conditions c) (delay_verdict (length_of v) (timer_of x id).state)) x (timer_started x id c kind (length_of v)) 255

-- the engine with timer id stopped, and the ticks that were left to it
unfoldable pub timer_stopped : Engine → ℕ → Effect
timer_stopped x id = record { engine = with_timer x id stopped_row (stopped_in x.wheel id); given = left_in x.wheel id }

-- stop timer id
unfoldable pub stop_timer_model : Engine → ℕ → Stepped
stop_timer_model x id =
    judged (first_verdict (id_verdict x.started x.timercount id) (stop_verdict (timer_of x id).state)) x (timer_stopped x id).engine (timer_stopped x id).given

-- a timer that has come due is served
unfoldable pub serve_model : Engine → ℕ → Engine
serve_model x id =
    let row = timer_of x id in
    let signalled = with_scheduler x (scheduler.signal_model x.scheduler row.condition).scheduler in
    cond (eqb row.state 2) (with_wheel signalled (started_in x.wheel id row.length.0)) (with_timer signalled id stopped_row x.wheel)

-- the timers of a list are served, at most fuel of them, where n are served already
unfoldable pub serve_all_model : ℕ → ℕ → Engine → List ℕ → Effect
serve_all_model zero n x ids = record { engine = x; given = n }
serve_all_model (suc fuel) n x ids = cond (leb 32 (first ids)) (record { engine = x; given = n }) (serve_all_model fuel (suc n) (serve_model x (first ids)) (rest ids))

-- the wheel and the count after a tick
abbrev pub turned : Engine → Engine
turned x = record { scheduler = x.scheduler; timers = x.timers; wheel = (ticked_in x.wheel).wheel; started = x.started; threads = x.threads; mutexes = x.mutexes; conditions = x.conditions; timercount = x.timercount; count = (x.count + 1) % 4294967296 }

-- a tick
unfoldable pub tick_model : Engine → Stepped
tick_model x =
    let served = serve_all_model 32 0 (turned x) (ids_of (ticked_in x.wheel).due) in
    cond x.started (answered_model served.engine served.given true) (refused_model x Stopped)

-- a call
unfoldable pub step_model : Engine → Call → Stepped
step_model x Start = start_model x
step_model x (CreateThread base) = create_thread_model x base
step_model x (CreateMutex ceiling) = create_mutex_model x ceiling
step_model x CreateCondition = create_condition_model x
step_model x CreateTimer = create_timer_model x
step_model x (Acquire m) = acquire_model x m
step_model x (Release m) = release_model x m
step_model x (Wait c m) = wait_model x c m
step_model x (Signal c) = signal_model x c
step_model x (Broadcast c) = broadcast_model x c
step_model x (StartTimer id c kind v) = start_timer_model x id c kind v
step_model x (StopTimer id) = stop_timer_model x id
step_model x Tick = tick_model x
