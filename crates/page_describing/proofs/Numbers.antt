-- The set of queues in which a thread stands, by its number in the array, and the row of a timer, by its id.
-- Assumes nothing.
use Prim.Native.Nat.{ℕ, ◌+◌, ◌-◌, ◌%◌, ◌<◌}
use mathlib.Core.Path.{◌≡◌, refl, ap}
use mathlib.Core.Bool.{cond}
use native.Mathlib.Omega.{arith}
use lib.ListN.{get_or}
use lib.Dec.{eqb, ltb}
use borrow.Author.Tests.{eq-eqb, ne_eqb, lt-ltb, le-ltb}
use Rattle.laws.proofs.Lists.{by_equal}
use Rattle.value_tables.specs.declared.Thread.{Thread}
use Rattle.value_effects.specs.declared.Scheduler.{Scheduler}
use Rattle.value_effects.specs.Effects.{no_set, for_mutex_of, on_condition_of}
use Rattle.wheel.specs.declared.Wheel.{Wheel}
use Rattle.wheel.specs.Promise.{left_in}
use Rattle.units.specs.Units.{in_ticks}
use Rattle.value_engine.specs.declared.Timer.{Timer}
use Rattle.value_engine.specs.Engines.{no_timer}
use Rattle.page.specs.declared.TimerRow.{TimerRow}
use Rattle.place_clock.specs.Clock.{Clock, timer_of}
use Rattle.place_tables.specs.Changes.{set_numbered}
use Rattle.page_describing.specs.Describing.{set_number, set_model, timer_model, timer_at}

-- the set of queues of a thread, by its number
pub set_numbered_lem : (x : Scheduler) (row : Thread) → set_numbered x (set_number row % 33) ≡ set_model x row
unfolding set_numbered set_number set_model
set_numbered_lem x row = by_equal row.state 1
    (λ e. rw (eq-eqb _ _ e) refl)
    (λ n. rw (ne_eqb _ _ n) (by_equal row.state 3
    (λ e. rw (eq-eqb _ _ e) (at_mutex row.object))
    (λ o. rw (ne_eqb _ _ o) (at_condition row.object))))
  where
    at_mutex : (m : ℕ) → cond (eqb ((1 + m % 16) % 33) 0) x.threads.ready (cond (ltb ((1 + m % 16) % 33) 17) (get_or x.formutex ((1 + m % 16) % 33 - 1) no_set) (get_or x.oncondition ((1 + m % 16) % 33 - 17) no_set)) ≡ for_mutex_of x m
    at_mutex m =
        let low : (1 + m % 16) % 33 ≡ 1 + m % 16 = omega arith in
        let back : 1 + m % 16 - 1 ≡ m % 16 = omega arith in
        rw (low, ne_eqb (1 + m % 16) 0 (λ e. omega (arith, e)), lt-ltb (1 + m % 16) 17 (omega arith), back) refl

    at_condition : (c : ℕ) → cond (eqb ((17 + c % 16) % 33) 0) x.threads.ready (cond (ltb ((17 + c % 16) % 33) 17) (get_or x.formutex ((17 + c % 16) % 33 - 1) no_set) (get_or x.oncondition ((17 + c % 16) % 33 - 17) no_set)) ≡ on_condition_of x c
    at_condition c =
        let low : (17 + c % 16) % 33 ≡ 17 + c % 16 = omega arith in
        let back : 17 + c % 16 - 17 ≡ c % 16 = omega arith in
        rw (low, ne_eqb (17 + c % 16) 0 (λ e. omega (arith, e)), le-ltb (17 + c % 16) 17 (omega arith), back) refl

-- the row of one of the 32 timers
pub timer_there : (c : Clock) (w : Wheel) (i : ℕ) → i < 32 → timer_model (timer_of c i) w i ≡ timer_at c.timers w i
timer_there c w i low = let in_table : i % 32 ≡ i = omega (arith, low) in ap (λ j. timer_model (get_or c.timers j no_timer) w i) in_table

-- the page's row of a timer, from its row and its ticks left
pub timer_said_lem : (row is : Timer) (w : Wheel) (i left : ℕ) → row ≡ is → left ≡ left_in w i → ◌≡◌ {A = TimerRow} (record { state = row.state; condition = row.condition; length = row.length; left = in_ticks left }) (timer_model is w i)
unfolding timer_model
timer_said_lem row is w i left e f = λ j. record { state = (e j).state; condition = (e j).condition; length = (e j).length; left = in_ticks (f j) }
