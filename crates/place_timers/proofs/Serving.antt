-- One timer served in place is the definition's: it signals, and is started again or stopped.
-- Assumes nothing.
use Prim.Native.Nat.{ℕ, ◌+◌, ◌%◌, ◌<◌}
use mathlib.Core.Path.{◌≡◌, sym, ap, ◌∙◌}
use mathlib.Core.List.{List}
use lib.ListN.{get_or, set}
use borrow.Author.Tests.{eq-eqb, ne_eqb}
use Rattle.wheel.specs.declared.Wheel.{Wheel}
use Rattle.wheel.specs.Promise.{started_in, first, rest}
use Rattle.value_effects.specs.declared.Scheduler.{Scheduler}
use Rattle.value_effects.specs.Effects.{signal_model}
use Rattle.place_tables.specs.Cells.{scheduler_in}
use Rattle.place_effects.specs.Leaving.{signalled_in}
use Rattle.value_engine.specs.declared.Engine.{Engine}
use Rattle.value_engine.specs.declared.Effect.{Effect}
use Rattle.value_engine.specs.declared.Timer.{Timer}
use Rattle.value_engine.specs.Engines.{no_timer, stopped_row, serve_model}
use Rattle.value_engine.proofs.Serving.{on_from, serve_on}
use Rattle.place_calls.specs.declared.Counts.{Counts}
use Rattle.place_calls.specs.Standing.{Timing, engine_in}

-- ---- the ids that are left

-- one is served, and serving goes on with the others
pub goes_on : (x y : Engine) (z : Effect) (ids ids' : List ℕ) (n i : ℕ) → n < 32 → i < 32 → i ≡ first ids → ids' ≡ rest ids → y ≡ serve_model x i → on_from n x ids ≡ z → on_from (n + 1) y ids' ≡ z
goes_on x y z ids ids' n i few-so low is_first others served whole =
    let step : y ≡ serve_model x (first ids) = served ∙ ap (serve_model x) is_first in
    (λ j. on_from (n + 1) (step j) (others j)) ∙ sym (serve_on x ids n few-so (rw is_first at low)) ∙ whole

-- ---- a timer served

-- timers, their wheel and the tick count as one
abbrev timed : List Timer → Wheel → ℕ → Timing
timed rows w n = record { timers = rows; wheel = w; count = n }

-- the engine of a scheduler, of these and of counts
abbrev engine_with : Counts → Scheduler → Timing → Engine
engine_with n s t = record {
  scheduler = s;
  timers = t.timers;
  wheel = t.wheel;
  started = n.started;
  threads = n.threads;
  mutexes = n.mutexes;
  conditions = n.conditions;
  timercount = n.timercount;
  count = t.count;
}

-- the array k with timers, wheel and tick count beside it, and the row of timer i, which has signalled with the array k' after it
module _ (k k' : List ℕ) (t : Timing) (i left : ℕ) (row : Timer) (read : row ≡ get_or t.timers (i % 32) no_timer)
    (signalled : signalled_in k' left ≡ signal_model (scheduler_in k) row.condition) (counts : Counts) where
  -- a periodic one
  pub serves_periodic : (w : Wheel) → row.state ≡ 2 → w ≡ started_in t.wheel i row.length.0 → engine_in k' (timed t.timers w t.count) counts ≡ serve_model (engine_in k t counts) i
  unfolding serve_model
  serves_periodic w h again = rw (← read, eq-eqb row.state 2 h) (λ j. engine_with counts (signalled j).scheduler (timed t.timers (again j) t.count))

  -- another
  pub serves_other : (rows : List Timer) → (row.state ≡ 2 → ⊥) → rows ≡ set t.timers (i % 32) stopped_row → engine_in k' (timed rows t.wheel t.count) counts ≡ serve_model (engine_in k t counts) i
  unfolding serve_model
  serves_other rows h stopped = rw (← read, ne_eqb row.state 2 h) (λ j. engine_with counts (signalled j).scheduler (timed (stopped j) t.wheel t.count))
