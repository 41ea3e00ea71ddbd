-- The engine of a scheduler in the array, of what calls 1 to 10 leave alone, and of counts; and the engine with its answer.
-- Assumes nothing.
use Rattle.std.specs.Prelude.{ℕ, List}
use Rattle.calls.specs.declared.Answer.{Answer}
use Rattle.place_tables.specs.Cells.{scheduler_in}
use Rattle.wheel.specs.declared.Wheel.{Wheel}
use Rattle.value_engine.specs.declared.Timer.{Timer}
use Rattle.value_engine.specs.declared.Engine.{Engine}
use Rattle.value_engine.specs.declared.Stepped.{Stepped}
use Rattle.place_calls.specs.declared.Counts.{Counts}

-- the timers, their wheel, and the tick count
pub record Timing : Type 0 where
  pub timers : List Timer
  pub wheel : Wheel
  pub count : ℕ

-- the engine
abbrev pub engine_in : List ℕ → Timing → Counts → Engine
engine_in k t n = record {
  scheduler = scheduler_in k;
  timers = t.timers;
  wheel = t.wheel;
  started = n.started;
  threads = n.threads;
  mutexes = n.mutexes;
  conditions = n.conditions;
  timercount = n.timercount;
  count = t.count;
}

-- the engine with its answer
abbrev pub stepped_in : List ℕ → Timing → Counts → Answer → Stepped
stepped_in k t n a = record { engine = engine_in k t n; answer = a }
