-- What the functions that build an engine make of a page: the code's promises cite these. The laws of proofs/ carry them to the state that the
-- page describes.
-- Assumes nothing.
use Rattle.std.specs.Prelude.{ℕ, zero, suc, min, max, cond, List, get_or, replicate, eqb}
use Rattle.laws.specs.Filling.{filled}
use Rattle.queue.specs.Linking.{empty_links, empty_queues}
use Rattle.value_tables.specs.declared.Thread.{Thread}
use Rattle.value_effects.specs.declared.Mutex.{Mutex}
use Rattle.value_effects.specs.declared.Scheduler.{Scheduler}
use Rattle.value_effects.specs.Effects.{highest_in, ready_model, wait_for_model, wait_on_model}
use Rattle.wheel.specs.declared.Wheel.{Wheel}
use Rattle.wheel.specs.Hung.{empty}
use Rattle.wheel.specs.Promise.{wheel_of, started_in}
use Rattle.value_engine.specs.declared.Timer.{Timer}
use Rattle.value_engine.specs.declared.Engine.{Engine}
use Rattle.value_engine.specs.Engines.{stopped_row}
use Rattle.place_calls.specs.declared.Counts.{Counts}
use Rattle.page.specs.declared.ThreadRow.{ThreadRow}
use Rattle.page.specs.declared.TimerRow.{TimerRow}
use Rattle.page.specs.declared.Page.{Page}
use Rattle.page.specs.Says.{no_thread_row, no_mutex_row, no_timer_row}

-- ---- tables

-- the row of a mutex that is not there
abbrev pub free_row : Mutex
free_row = record { ceiling = 0; owner = 255; count = 0 }

-- the row of a thread that is not there
abbrev pub blank_row : Thread
blank_row = record { base = 0; priority = 0; state = 2; object = 255 }

-- the rows of n mutexes
unfoldable pub mutex_rows : List Mutex → ℕ → List Mutex
mutex_rows rows n = filled 16 (λ m. get_or rows m no_mutex_row) free_row (min n 16)

-- the ties of n condition variables
unfoldable pub tie_rows : List ℕ → ℕ → List ℕ
tie_rows rows n = filled 16 (λ c. get_or rows c 0) 255 (min n 16)

-- the row of thread t while it stands in no queue
unfoldable pub running_row : List Mutex → ThreadRow → ℕ → Thread
running_row mutexes row t = record { base = row.base; priority = max row.base (highest_in mutexes t); state = 2; object = 255 }

-- the rows of n threads, none of which stands in a queue
unfoldable pub thread_rows : List ThreadRow → List Mutex → ℕ → List Thread
thread_rows rows mutexes n = filled 32 (λ t. running_row mutexes (get_or rows t no_thread_row) t) blank_row (min n 32)

-- the engine's row of a timer
abbrev pub timer_from : TimerRow → Timer
timer_from row = record { state = row.state; condition = row.condition; length = row.length }

-- the rows of n timers
unfoldable pub timer_rows : List TimerRow → ℕ → List Timer
timer_rows rows n = filled 32 (λ i. timer_from (get_or rows i no_timer_row)) stopped_row (min n 32)

-- the wheel once the timers below n are hung for their ticks left
unfoldable pub hung_below : List TimerRow → ℕ → Wheel → Wheel
hung_below rows zero w = w
hung_below rows (suc i) w = started_in (hung_below rows i w) i (get_or rows i no_timer_row).left.0

-- the first of n threads from t on that runs, 255 for none
unfoldable pub runner_in : List ThreadRow → ℕ → ℕ → ℕ
runner_in rows zero t = 255
runner_in rows (suc n) t = cond (eqb (get_or rows t no_thread_row).state 2) t (runner_in rows n (suc t))

-- ---- the scheduler

-- the scheduler of a page while no thread stands in a queue
unfoldable pub blank_scheduler : Page → Scheduler
blank_scheduler x = record {
  threads = record { rows = thread_rows x.threadrows (mutex_rows x.mutexrows x.mutexes) x.threads; links = empty_links; ready = empty_queues };
  mutexes = mutex_rows x.mutexrows x.mutexes;
  formutex = replicate 16 empty_queues;
  ties = tie_rows x.ties x.conditions;
  oncondition = replicate 16 empty_queues;
  running = runner_in x.threadrows (min x.threads 32) 0;
}

-- thread t arrives where its state and object say; one that runs stays as it is
unfoldable pub arrived_where : Scheduler → ℕ → ℕ → ℕ → Scheduler
arrived_where x state object t = cond (eqb state 1) (ready_model x t) (cond (eqb state 3) (wait_for_model x t object) (cond (eqb state 4) (wait_on_model x t object) x))

-- thread t arrives if its place is this one
unfoldable pub arrived_one : Scheduler → ThreadRow → ℕ → ℕ → Scheduler
arrived_one x row place t = cond (eqb row.place place) (arrived_where x row.state row.object t) x

-- the threads below n whose place is this one arrive, in order of id
unfoldable pub arrived_below : List ThreadRow → ℕ → ℕ → Scheduler → Scheduler
arrived_below rows place zero x = x
arrived_below rows place (suc t) x = arrived_one (arrived_below rows place t x) (get_or rows t no_thread_row) place t

-- the threads below n whose place is below a number arrive, place after place
unfoldable pub arrived_places : List ThreadRow → ℕ → ℕ → Scheduler → Scheduler
arrived_places rows n zero x = x
arrived_places rows n (suc place) x = arrived_below rows place n (arrived_places rows n place x)

-- ---- the engine

-- whether started, and the counts of a page
abbrev pub page_counts : Page → Counts
page_counts x = record { started = x.started; threads = x.threads; mutexes = x.mutexes; conditions = x.conditions; timercount = x.timers }

-- the engine of a page
unfoldable pub build_model : Page → Engine
build_model x = record {
  scheduler = arrived_places x.threadrows (min x.threads 32) (min x.threads 32) (blank_scheduler x);
  timers = timer_rows x.timerrows x.timers;
  wheel = hung_below x.timerrows (min x.timers 32) (wheel_of (empty x.count));
  started = x.started;
  threads = x.threads;
  mutexes = x.mutexes;
  conditions = x.conditions;
  timercount = x.timers;
  count = x.count;
}
