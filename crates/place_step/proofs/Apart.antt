-- An engine that is taken apart is the same.
-- Assumes nothing.
use Prim.Native.Nat.{ℕ}
use mathlib.Core.Path.{◌≡◌}
use mathlib.Core.List.{List}
use Rattle.wheel.specs.Promise.{wheel_in}
use Rattle.place_tables.specs.Cells.{scheduler_in}
use Rattle.place_clock.specs.Clock.{clock_in, clock_of}
use Rattle.value_engine.specs.declared.Engine.{Engine}
use Rattle.place_calls.specs.declared.Counts.{Counts}
use Rattle.place_timers.specs.Arrays.{engine_on}
use Rattle.place_step.specs.Turning.{counts_of}

pub apart : (x : Engine) (k t w : List ℕ) (n : Counts) → scheduler_in k ≡ x.scheduler → clock_in t ≡ clock_of x.timers x.count → wheel_in w ≡ x.wheel → n ≡ counts_of x → engine_on k t w n ≡ x
apart x k t w n cells clock wheel counts = λ i. record {
  scheduler = cells i;
  timers = (clock i).timers;
  wheel = wheel i;
  started = (counts i).started;
  threads = (counts i).threads;
  mutexes = (counts i).mutexes;
  conditions = (counts i).conditions;
  timercount = (counts i).timercount;
  count = (clock i).count;
}
