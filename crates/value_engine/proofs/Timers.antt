-- The calls that start and stop a timer, on the engine that describes a sound state, give the engine and the answer of document 01's step.
-- Assumes nothing.
use Rattle.std.specs.Prelude.{Some, None}
use Prim.Native.Nat.{ℕ, ◌%◌, ◌<◌, ◌≤◌}
use mathlib.Core.Path.{◌≡◌, refl, sym, ap, ap₂, ◌∙◌}
use mathlib.Core.Logic.{◌≢◌}
use mathlib.Core.Bool.{Bool, true, false, ◌&&◌}
use mathlib.Core.List.{List}
use native.Mathlib.Omega.{arith}
use lib.ListN.{length, set, length-set, get_or-eq_default}
use lib.Seq.{get_or-set_same, get_or-set_other}
use lib.Dec.{eqb, ltb, leb}
use borrow.Author.Tests.{eqb-true, eq-eqb, lt-ltb, leb-false}
use Rattle.laws.specs.Lists.{tabulate}
use Rattle.laws.proofs.Bools.{nor_left, and_right, and_both, cond_true, cond_false}
use Rattle.laws.proofs.Lists.{by_below, get_d_tabulate, length_tabulate, set_tabulate}
use Rattle.units.specs.declared.Micros.{Micros}
use Rattle.units.specs.Units.{ticks_in, too_long, in_ticks, length_of}
use Rattle.calls.specs.declared.Call.TheVariants.{StartTimer, StopTimer}
use Rattle.calls.specs.declared.Kind.{Kind}
use Rattle.calls.specs.declared.Kind.TheVariants.{OneShot, Periodic}
use Rattle.calls.specs.Answers.{number_of}
use Rattle.wheel.specs.Hung as hung
use Rattle.wheel.specs.Hung.{Good, left, with_left}
use Rattle.wheel.specs.Promise.{wheel_of, started_in}
use Rattle.wheel.proofs.Promise.{start_hangs, stop_hangs, left_hung}
use Rattle.rules.specs.State.{Timer, Rows, State, stopped_timer, timer}
use Rattle.rules.specs.Effects.{state_of, length_kept, started_timer, goes, effect, given}
use Rattle.rules.specs.Refusals.{tests, verdict_of}
use Rattle.rules.specs.Sound.{timer_sound, timers_sound}
use Rattle.rules.specs.Page.{timer_code}
use Rattle.rules.specs.Step.{step_sound}
use Rattle.rules_soundness.proofs.Facts.{Sound}
use Rattle.rules_soundness.proofs.Keeping.{passed}
use Rattle.rules_soundness.proofs.Timers.{timer_at_lem, going_timer}
use Rattle.value_meaning.proofs.Rows.{small_32}
use Rattle.value_engine.specs.Engines.{kind_code, stopped_row, timer_started, timer_stopped, start_timer_model, stop_timer_model}
use Rattle.value_engine.specs.Stands.{row_of_timer, timer_in, hung_of, engine_of, stepped_of}
use Rattle.value_engine.proofs.Answers.{judged_stands}
use Rattle.value_engine.proofs.Verdicts.{start_timer_verdict_lem, stop_timer_verdict}
use Rattle.value_engine.proofs.Calls.{ready_to_choose}

-- ---- what soundness tells of a timer

-- a stopped one has 0 ticks left
pub stopped_left : (k : Rows) (x : Timer) → timer_sound k x ≡ true → goes x.state ≡ false → x.left ≡ 0
stopped_left k x e q = eqb-true x.left 0 (and_right (eqb x.condition 255 && eqb x.length 0) (eqb x.left 0) (rw q at e))

-- and none has more than 65,535
pub left_short : (k : Rows) (x : Timer) → timer_sound k x ≡ true → x.left < 65536
left_short k x e = go (goes x.state) refl
  where
    go : (b : Bool) → goes x.state ≡ b → x.left < 65536
    go true q = let g = going_timer k x q e in omega (arith, g.short)
    go false q = omega (arith, stopped_left k x e q)

-- the wheel of a sound table is good
pub good_hung : (k : Rows) (count : ℕ) (ts : List Timer) → timers_sound k ts ≡ true → Good (hung_of count ts)
good_hung k count ts e = record {
  place = omega arith;
  timers = length_tabulate 32 (λ i. (timer ts i).left);
  short = λ i. by_below i 32
      (λ l. rw (get_d_tabulate 32 (λ j. (timer ts j).left) i 0 l) (left_short k (timer ts i) (timer_at_lem k ts e i)))
      (λ l. rw (get_or-eq_default (tabulate 32 (λ j. (timer ts j).left)) 0 {n = i} (rw (length_tabulate 32 (λ j. (timer ts j).left)) l)) (omega arith));
}

-- ---- one timer is set

module _ (ts : List Timer) (i : ℕ) (x : Timer) (there : i < length ts) (few : length ts ≤ 32) where
  set_here : timer (set ts i x) i ≡ x
  set_here = get_or-set_same ts i x stopped_timer there

  set_there : (j : ℕ) → j ≢ i → timer ts j ≡ timer (set ts i x) j
  set_there j n = sym (get_or-set_other ts i j x stopped_timer n)

  -- its row
  pub timer_rows_lem : set (tabulate 32 (timer_in ts)) (i % 32) (row_of_timer x) ≡ tabulate 32 (timer_in (set ts i x))
  timer_rows_lem = ap₂ (λ j r. set (tabulate 32 (timer_in ts)) j r) (small_32 i (omega arith)) (sym (ap row_of_timer set_here)) ∙ set_tabulate 32 (timer_in ts) (timer_in (set ts i x)) i (λ j n. ap row_of_timer (set_there j n))

  -- and its ticks left
  pub left_rows : (count : ℕ) → with_left (hung_of count ts) i x.left ≡ hung_of count (set ts i x)
  unfolding with_left
  left_rows count = ap (λ l. record { position = count % 64; lefts = l }) (ap (set (tabulate 32 (λ j. (timer ts j).left)) i) (sym (ap (λ (y : Timer). y.left) set_here)) ∙ set_tabulate 32 (λ j. (timer ts j).left) (λ j. (timer (set ts i x) j).left) i (λ j n. ap (λ (y : Timer). y.left) (set_there j n)))

-- ---- 11 and 12

kind_code_lem : (kind : Kind) → kind_code kind ≡ timer_code (state_of kind)
unfolding timer_code
kind_code_lem OneShot = refl
kind_code_lem Periodic = refl

-- the wheel with a stopped timer of the 32 started
pub start_turns : (k : Rows) (count : ℕ) (ts : List Timer) (i n : ℕ) → timers_sound k ts ≡ true → i < 32 → (timer ts i).left ≡ 0 → 0 < n → started_in (wheel_of (hung_of count ts)) i n ≡ wheel_of (with_left (hung_of count ts) i n)
start_turns k count ts i n e l z some = start_hangs (hung_of count ts) (good_hung k count ts e) i n ∙ ap wheel_of begins
  where
    open_slot : hung.free (hung_of count ts) i n ≡ true
    open_slot = and_both (ltb i 32 && eqb (left (hung_of count ts) i) 0) (ltb 0 n) (and_both (ltb i 32) (eqb (left (hung_of count ts) i) 0) (lt-ltb i 32 l) (eq-eqb (left (hung_of count ts) i) 0 (get_d_tabulate 32 (λ j. (timer ts j).left) i 0 l ∙ z))) (lt-ltb 0 n some)

    begins : hung.started (hung_of count ts) i n ≡ with_left (hung_of count ts) i n
    begins = unfold hung.started in (cond_true (hung.free (hung_of count ts) i n) (with_left (hung_of count ts) i n) (hung_of count ts) open_slot)

module _ {s : State} (o : Sound s) where
  abbrev k : Rows
  k = s.scheduler.rows

  module _ (i c : ℕ) (kind : Kind) (v : Micros) (z : number_of (verdict_of s (StartTimer i c kind v)) ≡ 0) where
    abbrev n : ℕ
    n = ticks_in v.0

    abbrev new : Timer
    new = started_timer c kind (ticks_in v.0)

    there : i < length s.timers
    unfolding tests
    there = leb-false (length s.timers) i (nor_left (leb (length s.timers) i) (leb (length k.ties) c) (passed s (StartTimer i c kind v) z).1.0)

    in_range_lem : too_long (ticks_in v.0) ≡ false
    unfolding tests
    in_range_lem = (passed s (StartTimer i c kind v) z).1.1.0

    was_stopped : goes (timer s.timers i).state ≡ false
    unfolding tests
    was_stopped = (passed s (StartTimer i c kind v) z).1.1.1.0

    length_so : length_of v ≡ Some (in_ticks (ticks_in v.0))
    length_so = cond_false (too_long (ticks_in v.0)) None (Some (in_ticks (ticks_in v.0))) in_range_lem

    some : 0 < ticks_in v.0
    some = omega arith

    wheel_so : started_in (wheel_of (hung_of s.count s.timers)) i (ticks_in v.0) ≡ wheel_of (hung_of s.count (set s.timers i new))
    wheel_so = start_turns k s.count s.timers i (ticks_in v.0) o.timers (omega (arith, there, o.few_timers)) (stopped_left k (timer s.timers i) (timer_at_lem k s.timers o.timers i) was_stopped) some
        ∙ ap wheel_of (left_rows s.timers i new there o.few_timers s.count)

    start_timer_effect : timer_started (engine_of s) i c kind (length_of v) ≡ engine_of (effect s (StartTimer i c kind v))
    start_timer_effect = ap (timer_started (engine_of s) i c kind) length_so ∙ (unfold effect engine_of in (λ j. record {
      scheduler = (engine_of s).scheduler;
      timers = (ap (λ a. set (tabulate 32 (timer_in s.timers)) (i % 32) (record { state = a; condition = c; length = in_ticks (length_kept kind (ticks_in v.0)) })) (kind_code_lem kind) ∙ timer_rows_lem s.timers i new there o.few_timers) j;
      wheel = wheel_so j;
      started = k.started;
      threads = length k.threads;
      mutexes = length k.mutexes;
      conditions = length k.ties;
      timercount = sym (length-set s.timers i new) j;
      count = s.count;
    }))

  pub start_timer_steps : (i c : ℕ) (kind : Kind) (v : Micros) → start_timer_model (engine_of s) i c kind v ≡ stepped_of (step_sound s (StartTimer i c kind v))
  start_timer_steps i c kind v = unfold start_timer_model in (judged_stands s (StartTimer i c kind v) _ _ 255 refl (start_timer_verdict_lem o i c kind v) (λ z. (start_timer_effect i c kind v z, (unfold given in refl), ready_to_choose o (StartTimer i c kind v) z)))

  module _ (i : ℕ) (z : number_of (verdict_of s (StopTimer i)) ≡ 0) where
    stops_there : i < length s.timers
    unfolding tests
    stops_there = leb-false (length s.timers) i (passed s (StopTimer i) z).1.0

    stop_timer_effect : (timer_stopped (engine_of s) i).engine ≡ engine_of (effect s (StopTimer i))
    stop_timer_effect = unfold timer_stopped effect engine_of in (λ j. record {
      scheduler = (engine_of s).scheduler;
      timers = rows j;
      wheel = (stop_hangs (hung_of s.count s.timers) (good_hung k s.count s.timers o.timers) i ∙ ap wheel_of lefts) j;
      started = k.started;
      threads = length k.threads;
      mutexes = length k.mutexes;
      conditions = length k.ties;
      timercount = sym (length-set s.timers i stopped_timer) j;
      count = s.count;
    })
      where
        lefts : hung.stopped (hung_of s.count s.timers) i ≡ hung_of s.count (set s.timers i stopped_timer)
        lefts = unfold hung.stopped in (left_rows s.timers i stopped_timer stops_there o.few_timers s.count)

        rows : set (tabulate 32 (timer_in s.timers)) (i % 32) stopped_row ≡ tabulate 32 (timer_in (set s.timers i stopped_timer))
        rows = unfold timer_code in (timer_rows_lem s.timers i stopped_timer stops_there o.few_timers)

    -- what the wheel says is left is what the definition says
    stop_timer_given : (timer_stopped (engine_of s) i).given ≡ given s (StopTimer i)
    stop_timer_given = unfold timer_stopped engine_of given in (
        left_hung (hung_of s.count s.timers) (good_hung k s.count s.timers o.timers) i
        ∙ get_d_tabulate 32 (λ j. (timer s.timers j).left) i 0 (omega (arith, stops_there, o.few_timers)))

  pub stop_timer_steps : (i : ℕ) → stop_timer_model (engine_of s) i ≡ stepped_of (step_sound s (StopTimer i))
  stop_timer_steps i = unfold stop_timer_model in (judged_stands s (StopTimer i) _ _ _ refl (stop_timer_verdict o i) (λ z. (stop_timer_effect i z, stop_timer_given i z, ready_to_choose o (StopTimer i) z)))
