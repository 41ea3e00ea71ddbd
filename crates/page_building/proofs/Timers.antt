-- The timers and the wheel that the code builds are those of the state that the page describes.
-- Assumes nothing.
use Prim.Native.Nat.{ℕ, zero, suc, ◌%◌, ◌<◌, ◌≤◌, min}
use mathlib.Core.Path.{◌≡◌, refl, sym, ap, ap₂, ◌∙◌, subst}
use mathlib.Core.Bool.{true, cond}
use mathlib.Core.List.{List, map}
use native.Mathlib.Omega.{arith}
use lib.ListN.{length, get_or, length-map, get_or-map, get_or-eq_default}
use lib.Dec.{ltb}
use borrow.Author.Tests.{lt-ltb, le-ltb}
use Rattle.laws.specs.Lists.{tabulate}
use Rattle.laws.proofs.Bools.{and_right, cond_true, cond_false}
use Rattle.laws.proofs.Lists.{by_below, length_tabulate, get_d_tabulate, tabulate_below, tabulate_same}
use Rattle.units.specs.Units.{in_ticks}
use Rattle.wheel.specs.Hung.{Hung, Good, empty, started, filled}
use Rattle.wheel.specs.Promise.{wheel_of, started_in}
use Rattle.wheel.proofs.Promise.{start_hangs, good_empty, good_started, fill_none, fill_next}
use Rattle.rules.specs.State.{Timer, stopped_timer, timer}
use Rattle.rules.specs.Page as rules
use Rattle.rules.specs.Page.{rows_of, timer_state_of, timer_of, described_by, thread_formed, timer_formed, each_row, page_formed, page_sound, timer_code}
use Rattle.rules_soundness.proofs.Timers.{timer_at_lem}
use Rattle.rules_pages.proofs.Rows.{row_passes, timer_row_found}
use Rattle.value_engine.specs.declared.Timer as engine
use Rattle.value_engine.specs.Engines.{stopped_row}
use Rattle.value_engine.specs.Stands.{row_of_timer, timer_in, hung_of}
use Rattle.value_engine.proofs.Timers.{left_short}
use Rattle.page.specs.declared.Page.{Page}
use Rattle.page.specs.Says.{timer_said, no_timer_row, stopped_timer_row, said}
use Rattle.page_building.specs.Building.{timer_from, timer_rows, hung_below}
use Rattle.page_building.proofs.Arrivals.{sound}
use Rattle.page_building.proofs.Blank.{all_fit, table_said}

-- as many as the page says
pub timers_many : (x : Page) → length (map timer_of (said x).timers) ≡ x.timers
unfolding said
timers_many x = length-map (said x).timers timer_of ∙ length_tabulate x.timers (λ i. timer_said (get_or x.timerrows i no_timer_row))

module _ (x : Page) (formed : page_formed (said x) ≡ true) (e : page_sound (said x) ≡ true) where
  -- the timers of the state
  abbrev ts : List Timer
  ts = map timer_of (said x).timers

  -- no more than fit
  timers_few : x.timers ≤ 32
  timers_few = omega (arith, timers_many x, fits)
    where
      fits : length (map timer_of (said x).timers) ≤ 32
      fits = unfold described_by in (sound (said x) formed e).few_timers

  -- a timer of the state is what its row says, also outside the table
  timer_of_lem : (i : ℕ) → timer (map timer_of (said x).timers) i ≡ timer_of (get_or (said x).timers i stopped_timer_row)
  unfolding timer_state_of
  timer_of_lem i = get_or-map timer_of (said x).timers i stopped_timer_row

  -- a row in use
  row_said : (i : ℕ) → i < x.timers → get_or (said x).timers i stopped_timer_row ≡ timer_said (get_or x.timerrows i no_timer_row)
  unfolding said
  row_said i l = get_d_tabulate x.timers (λ j. timer_said (get_or x.timerrows j no_timer_row)) i stopped_timer_row l

  -- the code of its state is the row's number
  code_said : (i : ℕ) → i < x.timers → (get_or x.timerrows i no_timer_row).state ≡ timer_code (timer_state_of (get_or x.timerrows i no_timer_row).state)
  code_said i l = sym (ap (λ (y : rules.TimerRow). y.state) (timer_row_found (timer_said (get_or x.timerrows i no_timer_row)) (subst (λ y. timer_formed y ≡ true) (row_said i l) passes)))
    where
      passes : timer_formed (get_or (said x).timers i stopped_timer_row) ≡ true
      passes = row_passes timer_formed (said x).timers i stopped_timer_row (and_right (each_row thread_formed (said x).threads) (each_row timer_formed (said x).timers) (unfold page_formed in formed))
          (unfold said in (rw (length_tabulate x.timers (λ j. timer_said (get_or x.timerrows j no_timer_row))) l))

  -- the rows of the timers
  pub timers_said : timer_rows x.timerrows x.timers ≡ tabulate 32 (timer_in (map timer_of (said x).timers))
  timers_said = rows ∙ tabulate_same 32 (λ i. row (get_or (said x).timers i stopped_timer_row)) (timer_in ts) (λ i. ap row_of_timer (sym (timer_of_lem i)))
    where
      row : rules.TimerRow → engine.Timer
      row y = record { state = timer_code (timer_state_of y.state); condition = y.condition; length = in_ticks y.length }

      rows : timer_rows x.timerrows x.timers ≡ tabulate 32 (λ i. row (get_or (said x).timers i stopped_timer_row))
      rows = unfold timer_rows said timer_state_of timer_code in (table_said 32 x.timers (λ i. timer_from (get_or x.timerrows i no_timer_row)) stopped_row timers_few row (λ i. timer_said (get_or x.timerrows i no_timer_row)) stopped_timer_row
          (λ i l. ap (λ s. record { state = s; condition = (get_or x.timerrows i no_timer_row).condition; length = (get_or x.timerrows i no_timer_row).length }) (code_said i l))
          refl)

  -- ---- the wheel

  -- the ticks left
  abbrev lefts : List ℕ
  lefts = tabulate 32 (λ i. (timer ts i).left)

  -- are those of the rows in use
  left_said : (i : ℕ) → i < x.timers → (get_or x.timerrows i no_timer_row).left.0 ≡ get_or lefts i 0
  left_said i l = sym (get_d_tabulate 32 (λ j. (timer ts j).left) i 0 (omega (arith, timers_few)) ∙ ap (λ (y : Timer). y.left) (timer_of_lem i) ∙ ap (λ (y : rules.TimerRow). y.left) (row_said i l))

  -- none is long
  short : (i : ℕ) → i < 32 → get_or lefts i 0 < 65536
  short i l = rw (get_d_tabulate 32 (λ j. (timer ts j).left) i 0 l) (left_short (rows_of (said x)) (timer ts i) (timer_at_lem (rows_of (said x)) ts (unfold described_by in (sound (said x) formed e).timers) i))

  -- the timers below i hang, and the wheel is good
  hangs : (i : ℕ) → i ≤ x.timers → Good (filled (x.count % 64) lefts i) × (hung_below x.timerrows i (wheel_of (empty x.count)) ≡ wheel_of (filled (x.count % 64) lefts i))
  unfolding hung_below
  hangs zero l = (subst Good (sym (fill_none x.count lefts)) (good_empty x.count), ap wheel_of (sym (fill_none x.count lefts)))
  hangs (suc i) l = more (hangs i (omega arith))
    where
      h : Hung
      h = filled (x.count % 64) lefts i

      small : i < 32
      small = omega (arith, timers_few)

      next : started (filled (x.count % 64) lefts i) i (get_or lefts i 0) ≡ filled (x.count % 64) lefts (suc i)
      next = fill_next (x.count % 64) lefts i small

      more : Good (filled (x.count % 64) lefts i) × (hung_below x.timerrows i (wheel_of (empty x.count)) ≡ wheel_of (filled (x.count % 64) lefts i))
          → Good (filled (x.count % 64) lefts (suc i)) × (started_in (hung_below x.timerrows i (wheel_of (empty x.count))) i (get_or x.timerrows i no_timer_row).left.0 ≡ wheel_of (filled (x.count % 64) lefts (suc i)))
      more g = (
        subst Good next (good_started h g.0 i (get_or lefts i 0) (short i small)),
        ap₂ (λ w r. started_in w i r) g.1 (left_said i l) ∙ start_hangs h g.0 i (get_or lefts i 0) ∙ ap wheel_of next,
      )

  -- past the table none hangs
  all_hang : filled (x.count % 64) lefts x.timers ≡ hung_of x.count ts
  all_hang = ap (λ l. record { position = x.count % 64; lefts = l }) (tabulate_below 32 (λ i. cond (ltb i x.timers) (get_or lefts i 0) 0) (λ i. (timer ts i).left) (λ i l. by_below i x.timers
      (λ b. cond_true (ltb i x.timers) (get_or lefts i 0) 0 (lt-ltb i x.timers b) ∙ get_d_tabulate 32 (λ j. (timer ts j).left) i 0 l)
      (λ b. cond_false (ltb i x.timers) (get_or lefts i 0) 0 (le-ltb i x.timers b) ∙ sym (ap (λ (y : Timer). y.left) (get_or-eq_default ts stopped_timer {n = i} (rw (timers_many x) b))))))

  -- the wheel
  pub wheel_said : hung_below x.timerrows (min x.timers 32) (wheel_of (empty x.count)) ≡ wheel_of (hung_of x.count (map timer_of (said x).timers))
  wheel_said = ap (λ n. hung_below x.timerrows n (wheel_of (empty x.count))) (all_fit x.timers 32 timers_few) ∙ (hangs x.timers (omega arith)).1 ∙ ap wheel_of all_hang
