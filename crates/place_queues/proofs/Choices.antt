-- The choice of the next thread by its tests, on what was read for them.
-- Assumes nothing.
use Prim.Native.Nat.{ℕ, ◌<◌, ◌≤◌}
use mathlib.Core.Path.{◌≡◌, refl, ap, ◌∙◌}
use mathlib.Core.Bool.{Bool, true, false}
use borrow.Author.Tests.{lt-ltb, le-ltb, le-leb, lt-leb, eq-eqb, ne_eqb}
use Rattle.queue.specs.Linking.{highest_model}
use Rattle.value_tables.specs.declared.Thread.{Thread}
use Rattle.value_tables.specs.Tables as tables
use Rattle.value_tables.specs.Tables.{head_model, row_of, arrive_in_front_model}
use Rattle.value_effects.specs.declared.Scheduler.{Scheduler}
use Rattle.value_effects.specs.Effects.{with_threads, ready_model, run_first_model, choose_next_model}
use Rattle.place_tables.specs.Changes.{set_numbered}

module _ (x : Scheduler) (running best : ℕ) (row : Thread) (run : running ≡ x.running) (read : row ≡ row_of x.threads running) (found : best ≡ highest_model (set_numbered x 0)) where
  -- the running thread's row
  own : row ≡ row_of x.threads x.running
  own = read ∙ ap (row_of x.threads) run

  -- the highest ready priority
  highest : best ≡ (head_model x.threads.ready).priority
  unfolding set_numbered head_model
  highest = found

  -- it waits, so the first runs
  pub runner_waits : (tick : Bool) → 3 ≤ row.state → run_first_model x ≡ choose_next_model x tick
  unfolding choose_next_model tables.choose_next_model run_first_model
  runner_waits tick h = rw (← own, le-leb 3 row.state h) refl

  -- none is ready
  pub none_ready : (tick : Bool) → row.state < 3 → 16 ≤ best → x ≡ choose_next_model x tick
  unfolding choose_next_model tables.choose_next_model
  none_ready tick h l = rw (← own, lt-leb 3 row.state h, ← highest, le-leb 16 best l) refl

  -- a higher one is ready
  pub higher_ready : (tick : Bool) → row.state < 3 → best < 16 → row.priority < best → run_first_model (with_threads x (arrive_in_front_model x.threads running)) ≡ choose_next_model x tick
  unfolding choose_next_model tables.choose_next_model run_first_model
  higher_ready tick h l m = rw (← own, lt-leb 3 row.state h, ← highest, lt-leb 16 best l, lt-ltb row.priority best m, run) refl

  -- an equal one is ready at a tick
  pub equal_ready : row.state < 3 → best < 16 → best ≤ row.priority → row.priority ≡ best → run_first_model (ready_model x running) ≡ choose_next_model x true
  unfolding choose_next_model tables.choose_next_model run_first_model ready_model
  equal_ready h l m e = rw (← own, lt-leb 3 row.state h, ← highest, lt-leb 16 best l, le-ltb row.priority best m, eq-eqb row.priority best e, run) refl

  -- none is as high at a tick
  pub lower_ready : row.state < 3 → best < 16 → best ≤ row.priority → (row.priority ≡ best → ⊥) → x ≡ choose_next_model x true
  unfolding choose_next_model tables.choose_next_model
  lower_ready h l m e = rw (← own, lt-leb 3 row.state h, ← highest, lt-leb 16 best l, le-ltb row.priority best m, ne_eqb row.priority best e) refl

  -- none is higher, and it is no tick
  pub stays : row.state < 3 → best < 16 → best ≤ row.priority → x ≡ choose_next_model x false
  unfolding choose_next_model tables.choose_next_model
  stays h l m = rw (← own, lt-leb 3 row.state h, ← highest, lt-leb 16 best l, le-ltb row.priority best m) refl
