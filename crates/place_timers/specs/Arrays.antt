-- The engine as it stands in three arrays: the scheduler's bytes, the clock's words and the wheel's words.
-- Assumes nothing.
use Rattle.std.specs.Prelude.{ℕ, List}
use Rattle.calls.specs.declared.Answer.{Answer}
use Rattle.wheel.specs.Promise.{wheel_in}
use Rattle.value_engine.specs.declared.Engine.{Engine}
use Rattle.value_engine.specs.declared.Effect.{Effect}
use Rattle.value_engine.specs.declared.Stepped.{Stepped}
use Rattle.place_clock.specs.Clock.{clock_in}
use Rattle.place_calls.specs.declared.Counts.{Counts}
use Rattle.place_calls.specs.Standing.{Timing, engine_in}

-- the timers, their wheel and the tick count
abbrev pub timing_in : List ℕ → List ℕ → Timing
timing_in t w = record { timers = (clock_in t).timers; wheel = wheel_in w; count = (clock_in t).count }

-- the engine of these and of counts
abbrev pub engine_on : List ℕ → List ℕ → List ℕ → Counts → Engine
engine_on k t w n = engine_in k (timing_in t w) n

-- the engine with an answer
abbrev pub stepped_on : List ℕ → List ℕ → List ℕ → Counts → Answer → Stepped
stepped_on k t w n a = record { engine = engine_on k t w n; answer = a }

-- the engine after what a call does, before the next thread is chosen, and what it gives
abbrev pub effect_on : List ℕ → List ℕ → List ℕ → Counts → ℕ → Effect
effect_on k t w n given = record { engine = engine_on k t w n; given = given }
