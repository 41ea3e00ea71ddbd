-- The one engine that describes a state of document 01: every row, link, spoke and stored priority follows from it, to the last unused slot.
-- Assumes nothing.
use Rattle.std.specs.Prelude.{ℕ, ◌%◌, List, length}
use Rattle.laws.specs.Lists.{tabulate}
use Rattle.units.specs.Units.{in_ticks}
use Rattle.wheel.specs.Hung.{Hung}
use Rattle.wheel.specs.Promise.{wheel_of}
use Rattle.rules.specs.State as rules
use Rattle.rules.specs.State.{State, timer}
use Rattle.rules.specs.Page.{timer_code}
use Rattle.rules.specs.Step as step
use Rattle.value_meaning.specs.Stands.{scheduler_of}
use Rattle.value_engine.specs.declared.Timer.{Timer}
use Rattle.value_engine.specs.declared.Engine.{Engine}
use Rattle.value_engine.specs.declared.Stepped.{Stepped}

-- the engine's row of a timer
abbrev pub row_of_timer : rules.Timer → Timer
row_of_timer x = record { state = timer_code x.state; condition = x.condition; length = in_ticks x.length }

-- the row of timer i
abbrev pub timer_in : List rules.Timer → ℕ → Timer
timer_in ts i = row_of_timer (timer ts i)

-- the ticks left of all timers, at a tick count
abbrev pub hung_of : ℕ → List rules.Timer → Hung
hung_of count ts = record { position = count % 64; lefts = tabulate 32 (λ i. (timer ts i).left) }

-- the engine that describes a state
unfoldable pub engine_of : State → Engine
engine_of s = record {
  scheduler = scheduler_of s.scheduler;
  timers = tabulate 32 (timer_in s.timers);
  wheel = wheel_of (hung_of s.count s.timers);
  started = s.scheduler.rows.started;
  threads = length s.scheduler.rows.threads;
  mutexes = length s.scheduler.rows.mutexes;
  conditions = length s.scheduler.rows.ties;
  timercount = length s.timers;
  count = s.count;
}

-- the engine and the answer of a step of document 01
abbrev pub stepped_of : step.Stepped → Stepped
stepped_of r = record { engine = engine_of r.state; answer = r.answer }
