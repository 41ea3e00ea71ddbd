-- An engine that is put together from the parts that are built from a page is the one that is built from it.
-- Assumes nothing.
use Prim.Native.Nat.{ℕ}
use mathlib.Core.Path.{◌≡◌}
use mathlib.Core.List.{List}
use Rattle.wheel.specs.Promise.{wheel_in}
use Rattle.place_tables.specs.Cells.{scheduler_in}
use Rattle.place_clock.specs.Clock.{clock_in, clock_of}
use Rattle.place_timers.specs.Arrays.{engine_on}
use Rattle.page.specs.declared.Page.{Page}
use Rattle.page_building.specs.Building.{page_counts, build_model}

pub put_together : (p : Page) (k t w : List ℕ) → scheduler_in k ≡ (build_model p).scheduler → clock_in t ≡ clock_of (build_model p).timers (build_model p).count → wheel_in w ≡ (build_model p).wheel
    → engine_on k t w (page_counts p) ≡ build_model p
unfolding build_model
put_together p k t w cells clock wheel = λ i. record {
  scheduler = cells i;
  timers = (clock i).timers;
  wheel = wheel i;
  started = p.started;
  threads = p.threads;
  mutexes = p.mutexes;
  conditions = p.conditions;
  timercount = p.timers;
  count = (clock i).count;
}
