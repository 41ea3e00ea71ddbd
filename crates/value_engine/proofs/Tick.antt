-- The tick, on the engine that describes a sound state, gives the engine and the answer of document 01's step: the timers that have come due are
-- served one by one in order of id, and in between the engine is known by the ids that are left.
-- Assumes nothing.
use Prim.Native.Nat.{ℕ, zero, suc, ◌+◌, ◌-◌, ◌%◌, ◌<◌, ◌≤◌}
use mathlib.Core.Path.{◌≡◌, refl, sym, ap, ap₂, ◌∙◌, subst}
use mathlib.Core.Logic.{◌≢◌}
use mathlib.Core.Bool.{Bool, true, false, cond, not, ◌||◌, ◌&&◌, false≢true}
use mathlib.Core.List.{List, [], ◌∷◌, map}
use native.Mathlib.Omega.{arith}
use native.Mathlib.Nat.{not-suc-le-zero, le_of_suc-le-suc}
use lib.ListN.{length, get_or, set, length-map, get_or-map, get_or-eq_default}
use lib.Seq.{ext_get_or}
use lib.Dec.{eqb, ltb, leb}
use borrow.Author.Tests.{eqb-true, eqb-false, eq-eqb, ne_eqb, lt-leb, lt-ltb}
use Rattle.laws.specs.Lists.{among, tabulate}
use Rattle.laws.specs.Bits.{has}
use Rattle.laws.proofs.Bools.{by_cases, self, and_left, and_right, and_both, cond_true, cond_false}
use Rattle.laws.proofs.Lists.{by_below, get_d_tabulate, length_tabulate, set_tabulate, tabulate_below}
use Rattle.laws.proofs.Bits.{has_among, among_same, among_length}
use Rattle.units.specs.Units.{in_ticks}
use Rattle.calls.specs.declared.Call.TheVariants.{Tick}
use Rattle.calls.specs.declared.Verdict.TheVariants.{Done, Stopped}
use Rattle.calls.specs.Answers.{number_of}
use Rattle.value_effects.specs.declared.Signalled.{Signalled}
use Rattle.value_effects.specs.Effects as scheduler
use Rattle.wheel.specs.declared.Ticked.{Ticked}
use Rattle.wheel.specs.Hung as hung
use Rattle.wheel.specs.Hung.{Hung, Good, left, with_left, due}
use Rattle.wheel.specs.Promise.{wheel_of, started_in, ticked_in, ticked_of, ids_of}
use Rattle.wheel.proofs.Promise.{start_hangs, tick_hangs, left_ticked, ids_due}
use Rattle.rules.specs.State.{TimerState, stopped, one_shot, periodic, Timer, Rows, Scheduler, State, stopped_timer, timer}
use Rattle.rules.specs.Effects.{goes, is_due, after_due, ticked, due_conditions, signalled, signalled_each, next_count, effect, given}
use Rattle.rules.specs.Refusals.{tests, verdict_of}
use Rattle.rules.specs.Sound.{timer_sound, timers_sound}
use Rattle.rules.specs.Page.{timer_code}
use Rattle.rules.specs.Step.{after, runner, accepted, refused, step_sound}
use Rattle.rules_soundness.proofs.Facts.{Sound}
use Rattle.rules_soundness.proofs.Next.{Kept}
use Rattle.rules_soundness.proofs.Calls.{Going, left_signalled}
use Rattle.rules_soundness.proofs.Keeping.{kept, going}
use Rattle.rules_soundness.proofs.Timers.{timer_at_lem, going_timer, timers_ticked}
use Rattle.value_meaning.specs.Stands.{scheduler_of}
use Rattle.value_meaning.proofs.Rows.{small_32}
use Rattle.value_meaning.proofs.Signals.{signal_stands}
use Rattle.rules_soundness.proofs.Sizes.{sizes_each}
use Rattle.value_engine.specs.declared.Timer as engine
use Rattle.value_engine.specs.declared.Engine.{Engine}
use Rattle.value_engine.specs.declared.Effect.{Effect}
use Rattle.value_engine.specs.Engines.{stopped_row, no_timer, timer_of, with_scheduler, with_timer, with_wheel, answered_model, refused_model, serve_model, serve_all_model, turned, tick_model}
use Rattle.value_engine.specs.Stands.{row_of_timer, timer_in, hung_of, engine_of, stepped_of}
use Rattle.value_engine.proofs.Answers.{refused_stands, answered_stands}
use Rattle.value_engine.proofs.Calls.{ready_to_choose}
use Rattle.value_engine.proofs.Timers.{stopped_left, left_short, good_hung}
use Rattle.value_engine.proofs.Dues.{Listed, listed, due_conditions_lem}

-- a stopped timer stays as it is
stays_stopped : stopped_timer ≡ ticked stopped_timer
unfolding ticked
stays_stopped = refl

-- a timer of the table after the tick
timer_ticked : (ts : List Timer) (i : ℕ) → timer (map ticked ts) i ≡ ticked (timer ts i)
timer_ticked ts i = ap (get_or (map ticked ts) i) stays_stopped ∙ get_or-map ticked ts i stopped_timer

module _ (k : Rows) (s : State) (good : timers_sound k s.timers ≡ true) where
  abbrev ts : List Timer
  ts = s.timers

  sound_at : (i : ℕ) → timer_sound k (timer s.timers i) ≡ true
  sound_at = timer_at_lem k s.timers good

  -- the row and the ticks left of timer i while the timers of a list are still to be served
  abbrev row_mid : List ℕ → ℕ → engine.Timer
  row_mid is i = cond (has i is) (timer_in ts i) (timer_in (map ticked ts) i)

  abbrev left_mid : List ℕ → ℕ → ℕ
  left_mid is i = cond (has i is) 0 (timer (map ticked ts) i).left

  abbrev hung_mid : List ℕ → Hung
  hung_mid is = record { position = next_count s.count % 64; lefts = tabulate 32 (left_mid is) }

  mid : List ℕ → Scheduler → Engine
  mid is h = record {
    scheduler = scheduler_of h;
    timers = tabulate 32 (row_mid is);
    wheel = wheel_of (hung_mid is);
    started = s.scheduler.rows.started;
    threads = length s.scheduler.rows.threads;
    mutexes = length s.scheduler.rows.mutexes;
    conditions = length s.scheduler.rows.ties;
    timercount = length s.timers;
    count = next_count s.count;
  }

  good_mid : (is : List ℕ) → Good (hung_mid is)
  good_mid is = record {
    place = omega arith;
    timers = length_tabulate 32 (left_mid is);
    short = λ i. by_below i 32
        (λ l. rw (get_d_tabulate 32 (left_mid is) i 0 l) (go i (has i is)))
        (λ l. rw (get_or-eq_default (tabulate 32 (left_mid is)) 0 {n = i} (rw (length_tabulate 32 (left_mid is)) l)) (omega arith));
  }
    where
      go : (i : ℕ) (b : Bool) → cond b 0 (timer (map ticked ts) i).left < 65536
      go i true = omega arith
      go i false = left_short k (timer (map ticked ts) i) (timer_at_lem k (map ticked ts) (timers_ticked k ts good) i)

  -- who is first is left, and the others as before
  first_has : (i : ℕ) (is : List ℕ) → has i (i ∷ is) ≡ true
  first_has i is = ap (λ b. b || has i is) (self i)

  others_have : (i j : ℕ) (is : List ℕ) → j ≢ i → has j (i ∷ is) ≡ has j is
  others_have i j is n = ap (λ b. b || has j is) (ne_eqb j i n)

  -- ---- one timer that is due

  module _ (i : ℕ) (is : List ℕ) (small : i < 32) (dues : is_due (timer s.timers i) ≡ true) (once : has i is ≡ false) where
    row_now : row_mid (i ∷ is) i ≡ timer_in s.timers i
    row_now = cond_true (has i (i ∷ is)) (timer_in ts i) (timer_in (map ticked ts) i) (first_has i is)

    row_then : row_mid is i ≡ timer_in (map ticked s.timers) i
    row_then = cond_false (has i is) (timer_in ts i) (timer_in (map ticked ts) i) once

    row_others : (j : ℕ) → j ≢ i → row_mid (i ∷ is) j ≡ row_mid is j
    row_others j n = ap (λ b. cond b (timer_in ts j) (timer_in (map ticked ts) j)) (others_have i j is n)

    left_now : left_mid (i ∷ is) i ≡ 0
    left_now = cond_true (has i (i ∷ is)) 0 (timer (map ticked ts) i).left (first_has i is)

    left_then : left_mid is i ≡ (timer (map ticked s.timers) i).left
    left_then = cond_false (has i is) 0 (timer (map ticked ts) i).left once

    left_others : (j : ℕ) → j ≢ i → left_mid (i ∷ is) j ≡ left_mid is j
    left_others j n = ap (λ b. cond b 0 (timer (map ticked ts) j).left) (others_have i j is n)

    is_row : (h : Scheduler) → timer_of (mid (i ∷ is) h) i ≡ timer_in s.timers i
    is_row h = unfold mid in (ap (λ j. get_or (tabulate 32 (row_mid (i ∷ is))) j no_timer) (small_32 i small) ∙ get_d_tabulate 32 (row_mid (i ∷ is)) i no_timer small ∙ row_now)

    -- what it is after the tick
    after_tick_lem : timer (map ticked s.timers) i ≡ after_due (timer s.timers i).state (timer s.timers i)
    after_tick_lem = timer_ticked ts i ∙ (unfold ticked in (cond_true (is_due (timer ts i)) (after_due (timer ts i).state (timer ts i)) _ dues))

    -- the ticks left become n where it is started again, and stay where it is stopped
    lefts_set : (n : ℕ) → n ≡ (timer (map ticked s.timers) i).left → with_left (hung_mid (i ∷ is)) i n ≡ hung_mid is
    lefts_set n e = unfold with_left in (ap (λ l. record { position = next_count s.count % 64; lefts = l }) (ap (set (tabulate 32 (left_mid (i ∷ is))) i) (e ∙ sym left_then) ∙ set_tabulate 32 (left_mid (i ∷ is)) (left_mid is) i left_others))

    lefts_stay : (timer (map ticked s.timers) i).left ≡ 0 → hung_mid (i ∷ is) ≡ hung_mid is
    lefts_stay e = ap (λ l. record { position = next_count s.count % 64; lefts = l }) (tabulate_below 32 (left_mid (i ∷ is)) (left_mid is) (λ j l. by_cases (eqb j i)
        (λ y. ap (left_mid (i ∷ is)) (eqb-true j i y) ∙ left_now ∙ sym e ∙ sym left_then ∙ ap (left_mid is) (sym (eqb-true j i y)))
        (λ y. left_others j (eqb-false j i y))))

    rows_stay : timer_in s.timers i ≡ timer_in (map ticked s.timers) i → tabulate 32 (row_mid (i ∷ is)) ≡ tabulate 32 (row_mid is)
    rows_stay e = tabulate_below 32 (row_mid (i ∷ is)) (row_mid is) (λ j l. by_cases (eqb j i)
        (λ y. ap (row_mid (i ∷ is)) (eqb-true j i y) ∙ row_now ∙ e ∙ sym row_then ∙ ap (row_mid is) (sym (eqb-true j i y)))
        (λ y. row_others j (eqb-false j i y)))

    rows_set : stopped_row ≡ timer_in (map ticked s.timers) i → set (tabulate 32 (row_mid (i ∷ is))) (i % 32) stopped_row ≡ tabulate 32 (row_mid is)
    rows_set e = ap₂ (λ j r. set (tabulate 32 (row_mid (i ∷ is))) j r) (small_32 i small) (e ∙ sym row_then) ∙ set_tabulate 32 (row_mid (i ∷ is)) (row_mid is) i row_others

    going_now : goes (timer s.timers i).state ≡ true
    going_now = and_left (goes (timer ts i).state) (eqb (timer ts i).left 1) dues

    module _ (h : Scheduler) (o : Kept h) (there : (timer s.timers i).condition < length h.rows.ties) where
      abbrev c : ℕ
      c = (timer s.timers i).condition

      signals : (scheduler.signal_model (scheduler_of h) (timer s.timers i).condition).scheduler ≡ scheduler_of (signalled h (timer s.timers i).condition)
      signals = ap (λ (g : Signalled). g.scheduler) (signal_stands o c there)

      again : (timer s.timers i).state ≡ periodic → with_wheel (with_scheduler (mid (i ∷ is) h) (scheduler.signal_model (scheduler_of h) c).scheduler) (started_in (wheel_of (hung_mid (i ∷ is))) i (timer s.timers i).length) ≡ mid is (signalled h c)
      again e = unfold mid in (λ j. record {
        scheduler = signals j;
        timers = rows_stay same_row j;
        wheel = (start_hangs (hung_mid (i ∷ is)) (good_mid (i ∷ is)) i (timer ts i).length ∙ ap wheel_of (begins ∙ lefts_set (timer ts i).length (sym (ap (λ (x : Timer). x.left) is_again)))) j;
        started = s.scheduler.rows.started;
        threads = length s.scheduler.rows.threads;
        mutexes = length s.scheduler.rows.mutexes;
        conditions = length s.scheduler.rows.ties;
        timercount = length s.timers;
        count = next_count s.count;
      })
        where
          is_again : timer (map ticked s.timers) i ≡ record { state = periodic; condition = (timer s.timers i).condition; length = (timer s.timers i).length; left = (timer s.timers i).length }
          is_again = after_tick_lem ∙ ap (λ x. after_due x (timer ts i)) e

          same_row : timer_in s.timers i ≡ timer_in (map ticked s.timers) i
          same_row = ap (λ x. record { state = timer_code x; condition = (timer ts i).condition; length = in_ticks (timer ts i).length }) e ∙ sym (ap row_of_timer is_again)

          open_slot : hung.free (hung_mid (i ∷ is)) i (timer s.timers i).length ≡ true
          open_slot = let g = going_timer k (timer ts i) going_now (sound_at i) in
              and_both (ltb i 32 && eqb (left (hung_mid (i ∷ is)) i) 0) (ltb 0 (timer ts i).length)
              (and_both (ltb i 32) (eqb (left (hung_mid (i ∷ is)) i) 0) (lt-ltb i 32 small) (eq-eqb (left (hung_mid (i ∷ is)) i) 0 (get_d_tabulate 32 (left_mid (i ∷ is)) i 0 small ∙ left_now)))
              (lt-ltb 0 (timer ts i).length (omega (arith, g.some, g.most)))

          begins : hung.started (hung_mid (i ∷ is)) i (timer s.timers i).length ≡ with_left (hung_mid (i ∷ is)) i (timer s.timers i).length
          begins = unfold hung.started in (cond_true (hung.free (hung_mid (i ∷ is)) i (timer ts i).length) (with_left (hung_mid (i ∷ is)) i (timer ts i).length) (hung_mid (i ∷ is)) open_slot)

      ends : (timer s.timers i).state ≡ one_shot → with_timer (with_scheduler (mid (i ∷ is) h) (scheduler.signal_model (scheduler_of h) c).scheduler) i stopped_row (wheel_of (hung_mid (i ∷ is))) ≡ mid is (signalled h c)
      ends e = unfold mid in (λ j. record {
        scheduler = signals j;
        timers = rows_set is_stopped_row j;
        wheel = wheel_of (lefts_stay (ap (λ (x : Timer). x.left) is_stopped) j);
        started = s.scheduler.rows.started;
        threads = length s.scheduler.rows.threads;
        mutexes = length s.scheduler.rows.mutexes;
        conditions = length s.scheduler.rows.ties;
        timercount = length s.timers;
        count = next_count s.count;
      })
        where
          is_stopped : timer (map ticked s.timers) i ≡ stopped_timer
          is_stopped = after_tick_lem ∙ ap (λ x. after_due x (timer ts i)) e

          is_stopped_row : stopped_row ≡ timer_in (map ticked s.timers) i
          is_stopped_row = unfold timer_code in (sym (ap row_of_timer is_stopped))

      -- by its state
      serve_by : (x : TimerState) → (timer s.timers i).state ≡ x
          → cond (eqb (timer_code x) 2) (with_wheel (with_scheduler (mid (i ∷ is) h) (scheduler.signal_model (scheduler_of h) c).scheduler) (started_in (wheel_of (hung_mid (i ∷ is))) i (timer s.timers i).length))
          (with_timer (with_scheduler (mid (i ∷ is) h) (scheduler.signal_model (scheduler_of h) c).scheduler) i stopped_row (wheel_of (hung_mid (i ∷ is)))) ≡ mid is (signalled h c)
      serve_by stopped e = absurd (false≢true (sym (ap goes e) ∙ going_now))
      serve_by one_shot e = unfold timer_code in (ends e)
      serve_by periodic e = unfold timer_code in (again e)

      serve_one : serve_model (mid (i ∷ is) h) i ≡ mid is (signalled h (timer s.timers i).condition)
      serve_one = unfold serve_model in (ap (λ (r : engine.Timer). by_row r) (is_row h) ∙ (unfold mid in (serve_by (timer ts i).state refl)))
        where
          by_row : engine.Timer → Engine
          by_row r = cond (eqb r.state 2) (with_wheel (with_scheduler (mid (i ∷ is) h) (scheduler.signal_model (mid (i ∷ is) h).scheduler r.condition).scheduler) (started_in (mid (i ∷ is) h).wheel i r.length.0))
              (with_timer (with_scheduler (mid (i ∷ is) h) (scheduler.signal_model (mid (i ∷ is) h).scheduler r.condition).scheduler) i stopped_row (mid (i ∷ is) h).wheel)

  -- ---- all that are due

  -- the condition variables of the timers of a list
  abbrev conditions_of : List ℕ → List ℕ
  conditions_of is = map (λ i. (timer s.timers i).condition) is

  -- a due timer's condition variable exists
  condition_exists : (i : ℕ) → is_due (timer s.timers i) ≡ true → (timer s.timers i).condition < length k.ties
  condition_exists i e = (going_timer k (timer ts i) (and_left (goes (timer ts i).state) (eqb (timer ts i).left 1) e) (sound_at i)).exists

  serve_all_lem : (is : List ℕ) (fuel n : ℕ) (h : Scheduler) → length is ≤ fuel → Listed 32 (λ i. is_due (timer s.timers i)) is → Kept h → Going h.rows → length h.rows.ties ≡ length k.ties
      → serve_all_model fuel n (mid is h) is ≡ record { engine = mid [] (signalled_each h (conditions_of is)); given = n + length is }
  unfolding serve_all_model signalled_each
  serve_all_lem [] zero n h l d o g z = ap (λ m. record { engine = mid [] h; given = m }) (omega arith)
  serve_all_lem [] (suc fuel) n h l d o g z = ap (λ m. record { engine = mid [] h; given = m }) (omega arith)
  serve_all_lem (i ∷ is) zero n h l d o g z = absurd (not-suc-le-zero l)
  serve_all_lem (i ∷ is) (suc fuel) n h l d o g z =
      let there : (timer s.timers i).condition < length h.rows.ties = subst (λ m. (timer s.timers i).condition < m) (sym z) (condition_exists i d.1) in
      let e = left_signalled o g (timer s.timers i).condition there in
      cond_false (leb 32 i) (record { engine = mid (i ∷ is) h; given = n }) (serve_all_model fuel (suc n) (serve_model (mid (i ∷ is) h) i) is) (lt-leb 32 i d.0)
      ∙ ap (λ x. serve_all_model fuel (suc n) x is) (serve_one i is d.0 d.1 d.2 h o there)
      ∙ serve_all_lem is fuel (suc n) (signalled h (timer s.timers i).condition) (le_of_suc-le-suc l) d.3 e.kept e.caller (e.ties ∙ z)
      ∙ ap (λ m. record { engine = mid [] (signalled_each (signalled h (timer s.timers i).condition) (conditions_of is)); given = m }) (omega arith)

-- ---- the tick

module _ {s : State} (o : Sound s) where
  abbrev k : Rows
  k = s.scheduler.rows

  abbrev h : Hung
  h = hung_of s.count s.timers

  abbrev due_ids : List ℕ
  due_ids = among 32 (λ i. is_due (timer s.timers i))

  -- a timer is due exactly if it has one tick left
  due_one : (i : ℕ) → i < 32 → eqb (left (hung_of s.count s.timers) i) 1 ≡ is_due (timer s.timers i)
  due_one i l = ap (λ r. eqb r 1) (get_d_tabulate 32 (λ j. (timer s.timers j).left) i 0 l) ∙ by_cases (goes (timer s.timers i).state)
      (λ e. rw e)
      (λ e. rw e (ap (λ r. eqb r 1) (stopped_left k (timer s.timers i) (timer_at_lem k s.timers o.timers i) e)))

  due_ids_lem : due (hung_of s.count s.timers) ≡ due_ids
  due_ids_lem = unfold due in (among_same 32 (λ i. eqb (left (hung_of s.count s.timers) i) 1) (λ i. is_due (timer s.timers i)) due_one)

  is_ticked : ticked_in (engine_of s).wheel ≡ ticked_of (hung_of s.count s.timers)
  is_ticked = unfold engine_of in (tick_hangs (hung_of s.count s.timers) (good_hung k s.count s.timers o.timers))

  ids_so : ids_of (ticked_in (engine_of s).wheel).due ≡ due_ids
  ids_so = ap (λ (t : Ticked). ids_of t.due) is_ticked ∙ due_of_lem
    where
      due_of_lem : ids_of (ticked_of (hung_of s.count s.timers)).due ≡ due_ids
      due_of_lem = unfold ticked_of in (ids_due (hung_of s.count s.timers) ∙ due_ids_lem)

  -- who is not due keeps its row and has a tick less; who is due has none left
  row_first : (i : ℕ) → i < 32 → timer_in s.timers i ≡ row_mid k s o.timers due_ids i
  row_first i l = by_cases (is_due (timer s.timers i))
      (λ e. sym (cond_true (has i due_ids) (timer_in s.timers i) (timer_in (map ticked s.timers) i) (has_among 32 (λ j. is_due (timer s.timers j)) i l ∙ e)))
      (λ e. sym (cond_false (has i due_ids) (timer_in s.timers i) (timer_in (map ticked s.timers) i) (has_among 32 (λ j. is_due (timer s.timers j)) i l ∙ e) ∙ ap row_of_timer (timer_ticked s.timers i ∙ not_due e)))
    where
      not_due : is_due (timer s.timers i) ≡ false → ticked (timer s.timers i) ≡ record { state = (timer s.timers i).state; condition = (timer s.timers i).condition; length = (timer s.timers i).length; left = (timer s.timers i).left - 1 }
      not_due e = unfold ticked in (cond_false (is_due (timer s.timers i)) (after_due (timer s.timers i).state (timer s.timers i)) _ e)

  left_first : (i : ℕ) → i < 32 → left (hung.ticked (hung_of s.count s.timers)) i ≡ left_mid k s o.timers due_ids i
  left_first i l = left_ticked (hung_of s.count s.timers) i ∙ ap (λ r. r - 1) (get_d_tabulate 32 (λ j. (timer s.timers j).left) i 0 l) ∙ by_cases (is_due (timer s.timers i))
      (λ e. ap (λ r. r - 1) (eqb-true (timer s.timers i).left 1 (and_right (goes (timer s.timers i).state) (eqb (timer s.timers i).left 1) e)) ∙ sym (cond_true (has i due_ids) 0 (timer (map ticked s.timers) i).left (has_among 32 (λ j. is_due (timer s.timers j)) i l ∙ e)))
      (λ e. sym (cond_false (has i due_ids) 0 (timer (map ticked s.timers) i).left (has_among 32 (λ j. is_due (timer s.timers j)) i l ∙ e) ∙ ap (λ (x : Timer). x.left) (timer_ticked s.timers i ∙ not_due e)))
    where
      not_due : is_due (timer s.timers i) ≡ false → ticked (timer s.timers i) ≡ record { state = (timer s.timers i).state; condition = (timer s.timers i).condition; length = (timer s.timers i).length; left = (timer s.timers i).left - 1 }
      not_due e = unfold ticked in (cond_false (is_due (timer s.timers i)) (after_due (timer s.timers i).state (timer s.timers i)) _ e)

  hung_first : hung.ticked (hung_of s.count s.timers) ≡ hung_mid k s o.timers due_ids
  hung_first = λ i. record { position = place i; lefts = lefts i }
    where
      place : (hung.ticked (hung_of s.count s.timers)).position ≡ next_count s.count % 64
      place = unfold hung.ticked in (omega arith)

      lefts : (hung.ticked (hung_of s.count s.timers)).lefts ≡ tabulate 32 (left_mid k s o.timers due_ids)
      lefts = ext_get_or 0 (hung.ticked (hung_of s.count s.timers)).lefts (tabulate 32 (left_mid k s o.timers due_ids)) (long ∙ sym (length_tabulate 32 (left_mid k s o.timers due_ids)))
          (λ i l. left_first i (subst (λ n. i < n) long l) ∙ sym (get_d_tabulate 32 (left_mid k s o.timers due_ids) i 0 (subst (λ n. i < n) long l)))
        where
          long : length (hung.ticked (hung_of s.count s.timers)).lefts ≡ 32
          long = unfold hung.ticked in (length-map (tabulate 32 (λ j. (timer s.timers j).left)) (λ r. r - 1) ∙ length_tabulate 32 (λ j. (timer s.timers j).left))

  is_turned : turned (engine_of s) ≡ mid k s o.timers due_ids s.scheduler
  is_turned = unfold engine_of mid in (λ i. record {
    scheduler = scheduler_of s.scheduler;
    timers = tabulate_below 32 (timer_in s.timers) (row_mid k s o.timers due_ids) row_first i;
    wheel = wheels i;
    started = k.started;
    threads = length k.threads;
    mutexes = length k.mutexes;
    conditions = length k.ties;
    timercount = length s.timers;
    count = next_count s.count;
  })
    where
      wheels : (ticked_in (engine_of s).wheel).wheel ≡ wheel_of (hung_mid k s o.timers due_ids)
      wheels = ap (λ (t : Ticked). t.wheel) is_ticked ∙ turns
        where
          turns : (ticked_of (hung_of s.count s.timers)).wheel ≡ wheel_of (hung_mid k s o.timers due_ids)
          turns = unfold ticked_of in (ap wheel_of hung_first)

  -- when all are served the engine describes the effect
  abbrev served_scheduler : Scheduler
  served_scheduler = signalled_each s.scheduler (map (λ i. (timer s.timers i).condition) due_ids)

  conditions_so : map (λ i. (timer s.timers i).condition) due_ids ≡ due_conditions s.timers
  conditions_so = sym (due_conditions_lem 32 s.timers o.few_timers)

  is_served : mid k s o.timers [] served_scheduler ≡ engine_of (effect s Tick)
  is_served = unfold effect engine_of mid in (λ i. record {
    scheduler = scheduler_of (signalled_each s.scheduler (conditions_so i));
    timers = tabulate 32 (timer_in (map ticked s.timers));
    wheel = wheel_of (hung_of (next_count s.count) (map ticked s.timers));
    started = sym (sizes_each (due_conditions s.timers) s.scheduler).started i;
    threads = sym (sizes_each (due_conditions s.timers) s.scheduler).threads i;
    mutexes = sym (sizes_each (due_conditions s.timers) s.scheduler).mutexes i;
    conditions = sym (sizes_each (due_conditions s.timers) s.scheduler).ties i;
    timercount = sym (length-map s.timers ticked) i;
    count = next_count s.count;
  })

  given_so : 0 + length due_ids ≡ given s Tick
  given_so = unfold given in (omega (arith, length-map due_ids (λ i. (timer s.timers i).condition), ap length conditions_so))

  abbrev all_served : Effect
  all_served = serve_all_model 32 0 (turned (engine_of s)) (ids_of (ticked_in (engine_of s).wheel).due)

  serves : k.started ≡ true → all_served ≡ record { engine = engine_of (effect s Tick); given = given s Tick }
  serves on = ap₂ (λ x is. serve_all_model 32 0 x is) is_turned ids_so
      ∙ serve_all_lem k s o.timers due_ids 32 0 s.scheduler (among_length 32 (λ i. is_due (timer s.timers i))) (listed 32 (λ i. is_due (timer s.timers i))) (kept o) (going o on) refl
      ∙ ap₂ (λ x n. record { engine = x; given = n }) is_served given_so

  -- started or stopped
  verdict_on : k.started ≡ true → number_of (verdict_of s Tick) ≡ 0
  unfolding verdict_of tests
  verdict_on on = ap (λ b. number_of (cond (not b) Stopped Done)) on

  verdict_off : k.started ≡ false → verdict_of s Tick ≡ Stopped
  unfolding verdict_of tests
  verdict_off off = ap (λ b. cond (not b) Stopped Done) off

  pub tick_steps : tick_model (engine_of s) ≡ stepped_of (step_sound s Tick)
  tick_steps = unfold tick_model in (by_cases k.started started stopped_so)
    where
      is_started : (engine_of s).started ≡ k.started
      is_started = unfold engine_of in refl

      started : k.started ≡ true → cond (engine_of s).started (answered_model all_served.engine all_served.given true) (refused_model (engine_of s) Stopped) ≡ stepped_of (step_sound s Tick)
      started on = cond_true (engine_of s).started (answered_model all_served.engine all_served.given true) (refused_model (engine_of s) Stopped) (is_started ∙ on)
          ∙ ap (λ (e : Effect). answered_model e.engine e.given true) (serves on)
          ∙ answered_stands (effect s Tick) (given s Tick) true (ready_to_choose o Tick (verdict_on on))
          ∙ (unfold step_sound after in (sym (ap stepped_of (cond_true (eqb (number_of (verdict_of s Tick)) 0) (accepted s Tick) (refused s (runner s) (verdict_of s Tick)) (eq-eqb (number_of (verdict_of s Tick)) 0 (verdict_on on))))))

      stopped_so : k.started ≡ false → cond (engine_of s).started (answered_model all_served.engine all_served.given true) (refused_model (engine_of s) Stopped) ≡ stepped_of (step_sound s Tick)
      stopped_so off = cond_false (engine_of s).started (answered_model all_served.engine all_served.given true) (refused_model (engine_of s) Stopped) (is_started ∙ off)
          ∙ refused_stands s Stopped
          ∙ ap (λ v. stepped_of (refused s (runner s) v)) (sym (verdict_off off))
          ∙ (unfold step_sound in (sym (ap stepped_of (cond_false (eqb (number_of (verdict_of s Tick)) 0) (accepted s Tick) (refused s (runner s) (verdict_of s Tick)) (ap (λ v. eqb (number_of v) 0) (verdict_off off))))))
