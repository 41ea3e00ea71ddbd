-- Each call but the tick, on the engine that describes a sound state, gives the engine and the answer of document 01's step.
-- Assumes nothing.
use Prim.Native.Nat.{ℕ, suc, ◌+◌, ◌%◌, ◌<◌, ◌≤◌}
use mathlib.Core.Path.{◌≡◌, refl, sym, ap, ◌∙◌}
use mathlib.Core.Bool.{Bool, true, false, not, ◌&&◌, false≢true}
use mathlib.Core.List.{[], ◌∷◌, ◌++◌}
use native.Mathlib.Omega.{arith}
use lib.ListN.{length, get_or-eq_default}
use lib.Dec.{eqb, ltb, leb}
use borrow.Author.Tests.{eqb-true, eqb-false, eq-eqb, ltb-false, leb-false, not-false}
use Rattle.laws.specs.Lists.{tabulate}
use Rattle.laws.proofs.Bools.{by_cases, nor_left, nor_right}
use Rattle.units.specs.Units.{outside}
use Rattle.calls.specs.declared.Call.{Call}
use Rattle.calls.specs.declared.Call.TheVariants.{Start, CreateThread, CreateMutex, CreateCondition, CreateTimer, Acquire, Release, Wait, Signal, Broadcast}
use Rattle.calls.specs.Answers.{number_of}
use Rattle.value_effects.specs.declared.Scheduler as scheduled
use Rattle.value_effects.specs.declared.Signalled.{Signalled}
use Rattle.value_effects.specs.Effects as scheduler
use Rattle.wheel.specs.Promise.{wheel_of}
use Rattle.rules.specs.State.{Rows, Scheduler, State, stopped_timer, mutex, timer, priority, with_rows, with_started, ready, stand, arrive}
use Rattle.rules.specs.Next.{run_first}
use Rattle.rules.specs.Effects as rules
use Rattle.rules.specs.Effects.{thread_created, mutex_created, condition_created, acquired, released, waited, signalled, signalled_times, effect, given}
use Rattle.rules.specs.Refusals.{tests, verdict_of}
use Rattle.rules.specs.Step.{step_sound}
use Rattle.rules_soundness.proofs.Facts.{Sound}
use Rattle.rules_soundness.proofs.Next.{Kept, Turned}
use Rattle.rules_soundness.proofs.Rows.{length_stand}
use Rattle.rules_soundness.proofs.Creating.{get_or_more, length_more, with_thread}
use Rattle.rules_soundness.proofs.Keeping.{passed, kept, going, effected}
use Rattle.value_meaning.specs.Stands.{threads_of, scheduler_of}
use Rattle.value_meaning.proofs.Calls.{acquire_stands, release_stands, waited_stands}
use Rattle.value_meaning.proofs.Signals.{signal_stands, broadcast_stands, run_stands}
use Rattle.value_meaning.proofs.Creating.{create_stands, create_mutex_stands, create_condition_stands}
use Rattle.rules_soundness.proofs.Sizes.{Sizes, sizes_first, sizes_acquired, sizes_released, sizes_waited, sizes_signalled, sizes_times}
use Rattle.value_engine.specs.Engines.{with_scheduler, start_model, create_thread_model, create_mutex_model, create_condition_model, create_timer_model, acquire_model, release_model, wait_model, signal_model, broadcast_model}
use Rattle.value_engine.specs.Stands.{row_of_timer, timer_in, hung_of, engine_of, stepped_of}
use Rattle.value_engine.proofs.Answers.{scheduler_stands, judged_stands}
use Rattle.value_engine.proofs.Verdicts.{start_verdict_lem, thread_verdict, mutex_verdict, condition_verdict, timer_verdict, acquire_verdict_lem, release_verdict_lem, wait_verdict, signal_verdict, broadcast_verdict}

module _ {s : State} (o : Sound s) where
  abbrev k : Rows
  k = s.scheduler.rows

  -- what the choice of the next thread needs after an accepted call
  pub ready_to_choose : (call : Call) → number_of (verdict_of s call) ≡ 0 → (effect s call).scheduler.rows.started ≡ true → Kept (effect s call).scheduler × Turned (effect s call).scheduler.rows
  ready_to_choose call z on = let e = effected o call (passed s call z) on in (e.kept, e.turned)

  -- an effect on the scheduler alone, of the same sizes
  by_scheduler : (x : scheduled.Scheduler) (g : Scheduler) → x ≡ scheduler_of g → Sizes s.scheduler g → with_scheduler (engine_of s) x ≡ engine_of (rules.with_scheduler s g)
  by_scheduler x g e z = ap (with_scheduler (engine_of s)) e ∙ scheduler_stands s g z

  started_so : not k.started ≡ false → k.started ≡ true
  started_so = not-false k.started

  -- the scheduler of the engine
  is_scheduler : (engine_of s).scheduler ≡ scheduler_of s.scheduler
  unfolding engine_of
  is_scheduler = refl

  -- the second of two tests fails where the first holds and not both do
  second_fails : (a b : Bool) → (a && b) ≡ false → a ≡ true → b ≡ false
  second_fails true b e q = e
  second_fails false b e q = absurd (false≢true q)

  -- ---- 6 to 10

  module _ (m : ℕ) (z : number_of (verdict_of s (Acquire m)) ≡ 0) where
    acquires : scheduler.acquire_model (scheduler_of s.scheduler) m ≡ scheduler_of (acquired s.scheduler m)
    unfolding tests
    acquires =
        let c = passed s (Acquire m) z in
        acquire_stands (kept o) (going o (started_so c.0)) m (leb-false (length k.mutexes) m c.1.0)
        (λ q. eqb-false (mutex k m).count 255 (second_fails (eqb (mutex k m).owner k.runner) (eqb (mutex k m).count 255) c.1.1.1.1.0 (eq-eqb (mutex k m).owner k.runner q)))

    acquire_effect : with_scheduler (engine_of s) (scheduler.acquire_model (engine_of s).scheduler m) ≡ engine_of (effect s (Acquire m))
    acquire_effect = unfold effect in (by_scheduler (scheduler.acquire_model (engine_of s).scheduler m) (acquired s.scheduler m) (ap (λ x. scheduler.acquire_model x m) is_scheduler ∙ acquires) (sizes_acquired s.scheduler m))

  pub acquire_steps : (m : ℕ) → acquire_model (engine_of s) m ≡ stepped_of (step_sound s (Acquire m))
  acquire_steps m = unfold acquire_model in (judged_stands s (Acquire m) _ (with_scheduler (engine_of s) (scheduler.acquire_model (engine_of s).scheduler m)) 255 refl (acquire_verdict_lem o m)
      (λ z. (acquire_effect m z, (unfold given in refl), ready_to_choose (Acquire m) z)))

  module _ (m : ℕ) (z : number_of (verdict_of s (Release m)) ≡ 0) where
    releases : scheduler.release_model (scheduler_of s.scheduler) m ≡ scheduler_of (released s.scheduler m)
    unfolding tests
    releases =
        let c = passed s (Release m) z in
        release_stands (kept o) (going o (started_so c.0)) m (leb-false (length k.mutexes) m c.1.0) (eqb-true (mutex k m).owner k.runner (not-false (eqb (mutex k m).owner k.runner) c.1.1.0))

    release_effect : with_scheduler (engine_of s) (scheduler.release_model (engine_of s).scheduler m) ≡ engine_of (effect s (Release m))
    release_effect = unfold effect in (by_scheduler (scheduler.release_model (engine_of s).scheduler m) (released s.scheduler m) (ap (λ x. scheduler.release_model x m) is_scheduler ∙ releases) (sizes_released s.scheduler m))

  pub release_steps : (m : ℕ) → release_model (engine_of s) m ≡ stepped_of (step_sound s (Release m))
  release_steps m = unfold release_model in (judged_stands s (Release m) _ (with_scheduler (engine_of s) (scheduler.release_model (engine_of s).scheduler m)) 255 refl (release_verdict_lem o m)
      (λ z. (release_effect m z, (unfold given in refl), ready_to_choose (Release m) z)))

  module _ (c m : ℕ) (z : number_of (verdict_of s (Wait c m)) ≡ 0) where
    waits_so : scheduler.wait_model (scheduler_of s.scheduler) c m ≡ scheduler_of (waited s.scheduler c m)
    unfolding tests
    waits_so =
        let x = passed s (Wait c m) z in
        waited_stands (kept o) (going o (started_so x.0)) c m
        (leb-false (length k.ties) c (nor_left (leb (length k.ties) c) (leb (length k.mutexes) m) x.1.0))
        (leb-false (length k.mutexes) m (nor_right (leb (length k.ties) c) (leb (length k.mutexes) m) x.1.0))
        (eqb-true (mutex k m).owner k.runner (not-false (eqb (mutex k m).owner k.runner) x.1.1.1.0))

    wait_effect : with_scheduler (engine_of s) (scheduler.wait_model (engine_of s).scheduler c m) ≡ engine_of (effect s (Wait c m))
    wait_effect = unfold effect in (by_scheduler (scheduler.wait_model (engine_of s).scheduler c m) (waited s.scheduler c m) (ap (λ x. scheduler.wait_model x c m) is_scheduler ∙ waits_so) (sizes_waited s.scheduler c m))

  pub wait_steps : (c m : ℕ) → wait_model (engine_of s) c m ≡ stepped_of (step_sound s (Wait c m))
  wait_steps c m = unfold wait_model in (judged_stands s (Wait c m) _ (with_scheduler (engine_of s) (scheduler.wait_model (engine_of s).scheduler c m)) 255 refl (wait_verdict o c m)
      (λ z. (wait_effect c m z, (unfold given in refl), ready_to_choose (Wait c m) z)))

  module _ (c : ℕ) (z : number_of (verdict_of s (Signal c)) ≡ 0) where
    signals_so : scheduler.signal_model (engine_of s).scheduler c ≡ record { scheduler = scheduler_of (signalled s.scheduler c); left = given s (Signal c) }
    unfolding tests given
    signals_so = ap (λ x. scheduler.signal_model x c) is_scheduler ∙ signal_stands (kept o) c (leb-false (length k.ties) c (passed s (Signal c) z).1.0)

    signal_effect : with_scheduler (engine_of s) (scheduler.signal_model (engine_of s).scheduler c).scheduler ≡ engine_of (effect s (Signal c))
    signal_effect = unfold effect in (by_scheduler (scheduler.signal_model (engine_of s).scheduler c).scheduler (signalled s.scheduler c) (ap (λ (g : Signalled). g.scheduler) signals_so) (sizes_signalled s.scheduler c))

  pub signal_steps : (c : ℕ) → signal_model (engine_of s) c ≡ stepped_of (step_sound s (Signal c))
  signal_steps c = unfold signal_model in (judged_stands s (Signal c) _ (with_scheduler (engine_of s) (scheduler.signal_model (engine_of s).scheduler c).scheduler) (scheduler.signal_model (engine_of s).scheduler c).left refl (signal_verdict o c)
      (λ z. (signal_effect c z, ap (λ (g : Signalled). g.left) (signals_so c z), ready_to_choose (Signal c) z)))

  module _ (c : ℕ) (z : number_of (verdict_of s (Broadcast c)) ≡ 0) where
    broadcasts_so : scheduler.broadcast_model 32 0 (engine_of s).scheduler c ≡ record { scheduler = scheduler_of (signalled_times 32 s.scheduler c); left = given s (Broadcast c) }
    unfolding tests given
    broadcasts_so =
        let x = passed s (Broadcast c) z in
        ap (λ y. scheduler.broadcast_model 32 0 y c) is_scheduler ∙ broadcast_stands 32 0 (kept o) (going o (started_so x.0)) c (leb-false (length k.ties) c x.1.0)
        ∙ ap (λ n. record { scheduler = scheduler_of (signalled_times 32 s.scheduler c); left = n }) (omega arith)

    broadcast_effect : with_scheduler (engine_of s) (scheduler.broadcast_model 32 0 (engine_of s).scheduler c).scheduler ≡ engine_of (effect s (Broadcast c))
    broadcast_effect = unfold effect in (by_scheduler (scheduler.broadcast_model 32 0 (engine_of s).scheduler c).scheduler (signalled_times 32 s.scheduler c) (ap (λ (g : Signalled). g.scheduler) broadcasts_so) (sizes_times 32 s.scheduler c))

  pub broadcast_steps : (c : ℕ) → broadcast_model (engine_of s) c ≡ stepped_of (step_sound s (Broadcast c))
  broadcast_steps c = unfold broadcast_model in (judged_stands s (Broadcast c) _ (with_scheduler (engine_of s) (scheduler.broadcast_model 32 0 (engine_of s).scheduler c).scheduler) (scheduler.broadcast_model 32 0 (engine_of s).scheduler c).left refl (broadcast_verdict o c)
      (λ z. (broadcast_effect c z, ap (λ (g : Signalled). g.left) (broadcasts_so c z), ready_to_choose (Broadcast c) z)))

  -- ---- 1 to 5

  pub start_steps : start_model (engine_of s) ≡ stepped_of (step_sound s Start)
  start_steps = unfold start_model in (judged_stands s Start _ _ 255 refl (start_verdict_lem o) (λ z. (begins, (unfold given in refl), ready_to_choose Start z)))
    where
      the_same : scheduler_of (run_first s.scheduler) ≡ scheduler_of (with_rows (run_first s.scheduler) (with_started (run_first s.scheduler).rows))
      the_same = unfold scheduler_of threads_of priority in refl

      begins : record { scheduler = scheduler.run_first_model (engine_of s).scheduler; timers = (engine_of s).timers; wheel = (engine_of s).wheel; started = true; threads = (engine_of s).threads; mutexes = (engine_of s).mutexes; conditions = (engine_of s).conditions; timercount = (engine_of s).timercount; count = (engine_of s).count } ≡ engine_of (effect s Start)
      begins = unfold effect engine_of in (λ i. record {
        scheduler = (run_stands s.scheduler o.queued o.facts.few ∙ the_same) i;
        timers = tabulate 32 (timer_in s.timers);
        wheel = wheel_of (hung_of s.count s.timers);
        started = true;
        threads = sym (sizes_first s.scheduler).threads i;
        mutexes = sym (sizes_first s.scheduler).mutexes i;
        conditions = sym (sizes_first s.scheduler).ties i;
        timercount = length s.timers;
        count = s.count;
      })

  -- a table with one row more counts one more
  counted_32 : (n : ℕ) → n < 32 → n % 32 + 1 ≡ suc n
  counted_32 n h = omega arith

  counted_16 : (n : ℕ) → n < 16 → n % 16 + 1 ≡ suc n
  counted_16 n h = omega arith

  within_range : (b : ℕ) → outside 1 15 b ≡ false → (1 ≤ b) × (b ≤ 15)
  within_range b e = (ltb-false b 1 (nor_left (ltb b 1) (ltb 15 b) e), ltb-false 15 b (nor_right (ltb b 1) (ltb 15 b) e))

  module _ (b : ℕ) (z : number_of (verdict_of s (CreateThread b)) ≡ 0) where
    room_for_thread : length k.threads < 32
    unfolding tests
    room_for_thread = leb-false 32 (length k.threads) (passed s (CreateThread b) z).1.0

    base_fits_lem : (1 ≤ b) × (b ≤ 15)
    unfolding tests
    base_fits_lem = within_range b (passed s (CreateThread b) z).0

    thread_effect : record { scheduler = scheduler.create_model (engine_of s).scheduler (engine_of s).threads b; timers = (engine_of s).timers; wheel = (engine_of s).wheel; started = (engine_of s).started; threads = (engine_of s).threads % 32 + 1; mutexes = (engine_of s).mutexes; conditions = (engine_of s).conditions; timercount = (engine_of s).timercount; count = (engine_of s).count } ≡ engine_of (effect s (CreateThread b))
    thread_effect = unfold effect engine_of in (λ i. record {
      scheduler = create_stands (kept o) b room_for_thread base_fits_lem.0 base_fits_lem.1 i;
      timers = tabulate 32 (timer_in s.timers);
      wheel = wheel_of (hung_of s.count s.timers);
      started = started_as i;
      threads = more i;
      mutexes = mutexes_as i;
      conditions = ties_as i;
      timercount = length s.timers;
      count = s.count;
    })
      where
        started_as : k.started ≡ (thread_created s.scheduler b).rows.started
        started_as = unfold thread_created arrive stand in refl

        more : length k.threads % 32 + 1 ≡ length (thread_created s.scheduler b).rows.threads
        more = counted_32 (length k.threads) room_for_thread ∙ sym (unfold thread_created arrive in (length_stand (with_thread k b) (length k.threads) ready ∙ length_more k.threads (record { base = b; stands = ready })))

        mutexes_as : length k.mutexes ≡ length (thread_created s.scheduler b).rows.mutexes
        mutexes_as = unfold thread_created arrive stand in refl

        ties_as : length k.ties ≡ length (thread_created s.scheduler b).rows.ties
        ties_as = unfold thread_created arrive stand in refl

  pub create_thread_steps : (b : ℕ) → create_thread_model (engine_of s) b ≡ stepped_of (step_sound s (CreateThread b))
  create_thread_steps b = unfold create_thread_model in (judged_stands s (CreateThread b) _ _ (engine_of s).threads refl (thread_verdict o b) (λ z. (thread_effect b z, (unfold given engine_of in refl), ready_to_choose (CreateThread b) z)))

  module _ (b : ℕ) (z : number_of (verdict_of s (CreateMutex b)) ≡ 0) where
    room_for_mutex : length k.mutexes < 16
    unfolding tests
    room_for_mutex = leb-false 16 (length k.mutexes) (passed s (CreateMutex b) z).1.0

    mutex_effect : record { scheduler = scheduler.create_mutex_model (engine_of s).scheduler (engine_of s).mutexes b; timers = (engine_of s).timers; wheel = (engine_of s).wheel; started = (engine_of s).started; threads = (engine_of s).threads; mutexes = (engine_of s).mutexes % 16 + 1; conditions = (engine_of s).conditions; timercount = (engine_of s).timercount; count = (engine_of s).count } ≡ engine_of (effect s (CreateMutex b))
    mutex_effect = unfold effect engine_of in (λ i. record {
      scheduler = create_mutex_stands (kept o) b room_for_mutex i;
      timers = tabulate 32 (timer_in s.timers);
      wheel = wheel_of (hung_of s.count s.timers);
      started = started_as i;
      threads = threads_as i;
      mutexes = more i;
      conditions = ties_as i;
      timercount = length s.timers;
      count = s.count;
    })
      where
        started_as : k.started ≡ (mutex_created s.scheduler b).rows.started
        started_as = unfold mutex_created in refl

        threads_as : length k.threads ≡ length (mutex_created s.scheduler b).rows.threads
        threads_as = unfold mutex_created in refl

        more : length k.mutexes % 16 + 1 ≡ length (mutex_created s.scheduler b).rows.mutexes
        more = counted_16 (length k.mutexes) room_for_mutex ∙ sym (unfold mutex_created in (length_more k.mutexes (record { ceiling = b; owner = 255; count = 0 })))

        ties_as : length k.ties ≡ length (mutex_created s.scheduler b).rows.ties
        ties_as = unfold mutex_created in refl

  pub create_mutex_steps : (b : ℕ) → create_mutex_model (engine_of s) b ≡ stepped_of (step_sound s (CreateMutex b))
  create_mutex_steps b = unfold create_mutex_model in (judged_stands s (CreateMutex b) _ _ (engine_of s).mutexes refl (mutex_verdict o b) (λ z. (mutex_effect b z, (unfold given engine_of in refl), ready_to_choose (CreateMutex b) z)))

  condition_effect : number_of (verdict_of s CreateCondition) ≡ 0 → record { scheduler = (engine_of s).scheduler; timers = (engine_of s).timers; wheel = (engine_of s).wheel; started = (engine_of s).started; threads = (engine_of s).threads; mutexes = (engine_of s).mutexes; conditions = (engine_of s).conditions % 16 + 1; timercount = (engine_of s).timercount; count = (engine_of s).count } ≡ engine_of (effect s CreateCondition)
  condition_effect z = unfold effect engine_of in (λ i. record {
    scheduler = create_condition_stands s.scheduler i;
    timers = tabulate 32 (timer_in s.timers);
    wheel = wheel_of (hung_of s.count s.timers);
    started = started_as i;
    threads = threads_as i;
    mutexes = mutexes_as i;
    conditions = more i;
    timercount = length s.timers;
    count = s.count;
  })
    where
      started_as : k.started ≡ (condition_created s.scheduler).rows.started
      started_as = unfold condition_created in refl

      threads_as : length k.threads ≡ length (condition_created s.scheduler).rows.threads
      threads_as = unfold condition_created in refl

      mutexes_as : length k.mutexes ≡ length (condition_created s.scheduler).rows.mutexes
      mutexes_as = unfold condition_created in refl

      more : length k.ties % 16 + 1 ≡ length (condition_created s.scheduler).rows.ties
      more = counted_16 (length k.ties) (unfold tests in (leb-false 16 (length k.ties) (passed s CreateCondition z).0)) ∙ sym (unfold condition_created in (length_more k.ties 255))

  pub create_condition_steps : create_condition_model (engine_of s) ≡ stepped_of (step_sound s CreateCondition)
  create_condition_steps = unfold create_condition_model in (judged_stands s CreateCondition _ _ (engine_of s).conditions refl (condition_verdict o) (λ z. (condition_effect z, (unfold given engine_of in refl), ready_to_choose CreateCondition z)))

  -- a stopped timer more is the row that was there
  timer_more : (i : ℕ) → timer s.timers i ≡ timer (s.timers ++ (stopped_timer ∷ [])) i
  timer_more i = sym (get_or_more s.timers stopped_timer stopped_timer i ∙ by_cases (eqb i (length s.timers))
      (λ e. rw (e, eqb-true i (length s.timers) e) (sym (get_or-eq_default s.timers stopped_timer {n = length s.timers} (omega arith))))
      (λ e. rw e))

  timer_effect : number_of (verdict_of s CreateTimer) ≡ 0 → record { scheduler = (engine_of s).scheduler; timers = (engine_of s).timers; wheel = (engine_of s).wheel; started = (engine_of s).started; threads = (engine_of s).threads; mutexes = (engine_of s).mutexes; conditions = (engine_of s).conditions; timercount = (engine_of s).timercount % 32 + 1; count = (engine_of s).count } ≡ engine_of (effect s CreateTimer)
  timer_effect z = unfold effect engine_of in (λ i. record {
    scheduler = scheduler_of s.scheduler;
    timers = tabulate 32 (λ j. row_of_timer (timer_more j i));
    wheel = wheel_of (record { position = s.count % 64; lefts = tabulate 32 (λ j. (timer_more j i).left) });
    started = k.started;
    threads = length k.threads;
    mutexes = length k.mutexes;
    conditions = length k.ties;
    timercount = more i;
    count = s.count;
  })
    where
      more : length s.timers % 32 + 1 ≡ length (s.timers ++ (stopped_timer ∷ []))
      more = counted_32 (length s.timers) (unfold tests in (leb-false 32 (length s.timers) (passed s CreateTimer z).0)) ∙ sym (length_more s.timers stopped_timer)

  pub create_timer_steps : create_timer_model (engine_of s) ≡ stepped_of (step_sound s CreateTimer)
  create_timer_steps = unfold create_timer_model in (judged_stands s CreateTimer _ _ (engine_of s).timercount refl (timer_verdict o) (λ z. (timer_effect z, (unfold given engine_of in refl), ready_to_choose CreateTimer z)))
