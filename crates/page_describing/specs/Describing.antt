-- What the page of any engine whatever says: the code's promises cite these. An object is taken modulo 16, and past priority 15 a queue is empty.
-- Assumes nothing.
use Rattle.std.specs.Prelude.{ℕ, ◌+◌, ◌%◌, cond, List, get_or, eqb}
use Rattle.laws.specs.Lists.{tabulate}
use Rattle.queue.specs.declared.Queues.{Queues}
use Rattle.queue.specs.Linking.{read_model, level_model}
use Rattle.value_tables.specs.declared.Thread.{Thread}
use Rattle.value_effects.specs.declared.Scheduler.{Scheduler}
use Rattle.value_effects.specs.Effects.{for_mutex_of, on_condition_of, thread_row_model}
use Rattle.units.specs.Units.{in_ticks}
use Rattle.wheel.specs.declared.Wheel.{Wheel}
use Rattle.wheel.specs.Promise.{left_in}
use Rattle.value_engine.specs.declared.Timer.{Timer}
use Rattle.value_engine.specs.declared.Engine.{Engine}
use Rattle.value_engine.specs.Engines.{no_timer}
use Rattle.rules.specs.Page.{ahead}
use Rattle.page.specs.declared.ThreadRow.{ThreadRow}
use Rattle.page.specs.declared.TimerRow.{TimerRow}
use Rattle.page.specs.declared.Page.{Page}

-- ---- threads

-- the set of queues in which a thread with this row stands
unfoldable pub set_model : Scheduler → Thread → Queues
set_model x row = cond (eqb row.state 1) x.threads.ready (cond (eqb row.state 3) (for_mutex_of x row.object) (on_condition_of x row.object))

-- the number of that set
unfoldable pub set_number : Thread → ℕ
set_number row = cond (eqb row.state 1) 0 (cond (eqb row.state 3) (1 + row.object % 16) (17 + row.object % 16))

-- the place of thread t with this row in its queue
unfoldable pub place_model : Scheduler → Thread → ℕ → ℕ
place_model x row t = cond (eqb row.state 2) 0 (ahead t (read_model x.threads.links (level_model (set_model x row) row.priority)))

-- the page's row of thread t
unfoldable pub thread_model : Scheduler → ℕ → ThreadRow
thread_model x t =
    let row = thread_row_model x t in
    record { base = row.base; state = row.state; object = row.object; place = place_model x row t }

-- ---- timers

-- the page's row of timer i with this row
unfoldable pub timer_model : Timer → Wheel → ℕ → TimerRow
timer_model row w i = record { state = row.state; condition = row.condition; length = row.length; left = in_ticks (left_in w i) }

-- the page's row of timer i of a table
abbrev pub timer_at : List Timer → Wheel → ℕ → TimerRow
timer_at rows w i = timer_model (get_or rows i no_timer) w i

-- ---- the page

-- the page of an engine
unfoldable pub describe_model : Engine → Page
describe_model x = record {
  started = x.started;
  count = x.count;
  threads = x.threads;
  mutexes = x.mutexes;
  conditions = x.conditions;
  timers = x.timercount;
  threadrows = tabulate 32 (thread_model x.scheduler);
  mutexrows = x.scheduler.mutexes;
  ties = x.scheduler.ties;
  timerrows = tabulate 32 (timer_at x.timers x.wheel);
}
