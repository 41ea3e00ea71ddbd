-- Soundness is kept: a sound state and any call give a sound state, in facts.
-- Assumes nothing.
use Prim.Native.Nat.{ℕ, ◌<◌, ◌≤◌}
use mathlib.Core.Path.{◌≡◌, refl, sym, ap, ◌∙◌, subst}
use mathlib.Core.Bool.{Bool, true, false, cond, not, ◌&&◌, false≢true}
use mathlib.Core.List.{List, [], ◌∷◌, ◌++◌, map}
use native.Mathlib.Omega.{arith}
use lib.ListN.{length, set, length-set, length-map}
use lib.Dec.{eqb, ltb, leb}
use borrow.Author.Tests.{eqb-true, eqb-false, eq-eqb, ne_eqb, ltb-false, leb-false, not-false}
use Rattle.laws.proofs.Bools.{by_cases, no_way, nor_left, nor_right, cond_true, cond_false}
use Rattle.units.specs.Units.{ticks_in}
use Rattle.calls.specs.declared.Call.{Call}
use Rattle.calls.specs.declared.Call.TheVariants.{Start, CreateThread, CreateMutex, CreateCondition, CreateTimer, Acquire, Release, Wait, Signal, Broadcast, StartTimer, StopTimer, Tick}
use Rattle.calls.specs.declared.Kind.{Kind}
use Rattle.calls.specs.declared.Kind.TheVariants.{OneShot, Periodic}
use Rattle.calls.specs.Answers.{number_of}
use Rattle.rules.specs.State.{running, ready, same, Thread, Timer, Rows, Scheduler, State, stopped_timer, thread, mutex, tied, at, priority, owned, with_started, stand, arrive}
use Rattle.rules.specs.Next.{run_first, choose_next}
use Rattle.rules.specs.Effects.{thread_created, mutex_created, condition_created, acquired, released, waited, signalled, signalled_times, signalled_each, state_of, started_timer, goes, ticked, due_conditions, next_count, with_scheduler, with_timers, effect}
use Rattle.rules.specs.Refusals.{Test, verdict, tests, verdict_of}
use Rattle.rules.specs.Sound.{timers_sound}
use Rattle.rules.specs.Step.{is_tick, after, step_sound}
use Rattle.rules_soundness.proofs.Tests.{within}
use Rattle.rules_soundness.proofs.Rows.{same_self, at_stand, length_stand}
use Rattle.rules_soundness.proofs.Facts.{Rests, Sound}
use Rattle.rules_soundness.proofs.Next.{Kept, Turned, Chosen, facts_handed, queued_handed, first_runs, next_chosen}
use Rattle.rules_soundness.proofs.Calls.{Going, turned_going, Left, left_turned, left_released, left_acquired, left_waited, left_signalled, left_times, left_each}
use Rattle.rules_soundness.proofs.Creating.{length_more, with_thread, kept_thread, kept_mutex, kept_condition, going_thread, old_thread, same_owner}
use Rattle.rules_soundness.proofs.Timers.{started_goes, timer_going, timers_more, timers_set, timers_created, timers_ticked, due_below, none_goes_created}

-- ---- an accepted call passed all its tests

abbrev pub Clear : List Test → Type 0
Clear [] = Unit {0}
Clear (x ∷ xs) = (x.holds ≡ false) × Clear xs

-- no test's verdict is done
abbrev Telling : List Test → Type 0
Telling [] = Unit {0}
Telling (x ∷ xs) = (number_of x.verdict ≡ 0 → ⊥) × Telling xs

clear : (xs : List Test) → Telling xs → number_of (verdict xs) ≡ 0 → Clear xs
clear [] t e = tt
clear (x ∷ xs) t e = go x.holds refl e (clear xs t.1)
  where
    go : (b : Bool) → x.holds ≡ b → number_of (cond b x.verdict (verdict xs)) ≡ 0 → (number_of (verdict xs) ≡ 0 → Clear xs) → (x.holds ≡ false) × Clear xs
    go true q z r = absurd (t.0 z)
    go false q z r = (q, r z)

-- every refusal has a number of its own
telling : (k : Rows) (ts : List Timer) (call : Call) → Telling (tests k ts call)
unfolding tests
telling k ts Start = (λ e. omega arith, tt)
telling k ts (CreateThread base) = (λ e. omega arith, (λ e. omega arith, tt))
telling k ts (CreateMutex ceiling) = (λ e. omega arith, (λ e. omega arith, tt))
telling k ts CreateCondition = (λ e. omega arith, tt)
telling k ts CreateTimer = (λ e. omega arith, tt)
telling k ts (Acquire m) = (λ e. omega arith, (λ e. omega arith, (λ e. omega arith, (λ e. omega arith, (λ e. omega arith, tt)))))
telling k ts (Release m) = (λ e. omega arith, (λ e. omega arith, (λ e. omega arith, tt)))
telling k ts (Wait c m) = (λ e. omega arith, (λ e. omega arith, (λ e. omega arith, (λ e. omega arith, (λ e. omega arith, (λ e. omega arith, tt))))))
telling k ts (Signal c) = (λ e. omega arith, (λ e. omega arith, tt))
telling k ts (Broadcast c) = (λ e. omega arith, (λ e. omega arith, tt))
telling k ts (StartTimer i c kind v) = (λ e. omega arith, (λ e. omega arith, (λ e. omega arith, (λ e. omega arith, tt))))
telling k ts (StopTimer i) = (λ e. omega arith, (λ e. omega arith, (λ e. omega arith, tt)))
telling k ts Tick = (λ e. omega arith, tt)

pub passed : (s : State) (call : Call) → number_of (verdict_of s call) ≡ 0 → Clear (tests s.scheduler.rows s.timers call)
unfolding verdict_of
passed s call e = clear (tests s.scheduler.rows s.timers call) (telling s.scheduler.rows s.timers call) e

-- ---- from a sound state

module _ {s : State} (o : Sound s) where
  abbrev rows : Rows
  rows = s.scheduler.rows

  pub kept : Kept s.scheduler
  kept = record { facts = o.facts; ties = o.ties; queued = o.queued }

  pub going : s.scheduler.rows.started ≡ true → Going s.scheduler.rows
  going e = let r = o.live e in record { there = r.there; runs = r.runs; only = r.only }

-- what an effect leaves to the choice of the next thread
pub record Effect (e : State) : Type 0 where
  pub kept : Kept e.scheduler
  pub turned : Turned e.scheduler.rows
  pub started : e.scheduler.rows.started ≡ true
  pub few_timers : length e.timers ≤ 32
  pub timers : timers_sound e.scheduler.rows e.timers ≡ true
  pub count : e.count < 4294967296

-- then the next thread is chosen
finished : (at_tick : Bool) (e : State) → Effect e → Sound (cond e.scheduler.rows.started (with_scheduler e (choose_next at_tick e.scheduler)) e)
finished at_tick e x = subst Sound (sym (cond_true e.scheduler.rows.started (with_scheduler e (choose_next at_tick e.scheduler)) e x.started)) (go (next_chosen x.kept x.turned at_tick))
  where
    go : Chosen e.scheduler (choose_next at_tick e.scheduler) → Sound (with_scheduler e (choose_next at_tick e.scheduler))
    go c = record {
      facts = c.kept.facts;
      ties = c.kept.ties;
      queued = c.kept.queued;
      few_timers = x.few_timers;
      timers = timers_more e.scheduler.rows (choose_next at_tick e.scheduler).rows e.timers (omega (arith, c.ties)) x.timers;
      count = x.count;
      live = λ y. c.runs;
      rests = λ y. no_way (choose_next at_tick e.scheduler).rows.started (c.started ∙ x.started) y;
    }

-- an effect on the scheduler alone
scheduled : {s : State} → Sound s → s.scheduler.rows.started ≡ true → (g : Scheduler) → Left Turned s.scheduler g → Effect (with_scheduler s g)
scheduled {s} o on g l = record {
  kept = l.kept;
  turned = l.caller;
  started = l.started ∙ on;
  few_timers = o.few_timers;
  timers = timers_more s.scheduler.rows g.rows s.timers (omega (arith, l.ties)) o.timers;
  count = o.count;
}

-- an effect on the timers alone
timed : {s : State} → Sound s → s.scheduler.rows.started ≡ true → (ts : List Timer) → length ts ≤ 32 → timers_sound s.scheduler.rows ts ≡ true → Effect (with_timers s ts)
timed {s} o on ts few good = record { kept = kept o; turned = turned_going (going o on); started = on; few_timers = few; timers = good; count = o.count }

-- a stopped state stays as it is
resting : (e : State) → e.scheduler.rows.started ≡ false → (at_tick : Bool) → Sound e → Sound (cond e.scheduler.rows.started (with_scheduler e (choose_next at_tick e.scheduler)) e)
resting e off at_tick o = subst Sound (sym (cond_false e.scheduler.rows.started (with_scheduler e (choose_next at_tick e.scheduler)) e off)) o

-- ---- creating, stopped or started

-- an effect that creates in the scheduler
module _ {s : State} (o : Sound s) (g : Scheduler) (now : Kept g) (started : g.rows.started ≡ s.scheduler.rows.started) (ties : length s.scheduler.rows.ties ≤ length g.rows.ties) where
  timers_still : timers_sound g.rows s.timers ≡ true
  timers_still = timers_more s.scheduler.rows g.rows s.timers ties o.timers

  created : (s.scheduler.rows.started ≡ true → Going g.rows) → (s.scheduler.rows.started ≡ false → Rests g.rows s.count s.timers)
      → Sound (cond g.rows.started (with_scheduler s (choose_next false g)) (with_scheduler s g))
  created live rest = by_cases s.scheduler.rows.started
      (λ on. finished false (with_scheduler s g) (record { kept = now; turned = turned_going (live on); started = started ∙ on; few_timers = o.few_timers; timers = timers_still; count = o.count }))
      (λ off. resting (with_scheduler s g) (started ∙ off) false (record {
        facts = now.facts;
        ties = now.ties;
        queued = now.queued;
        few_timers = o.few_timers;
        timers = timers_still;
        count = o.count;
        live = λ y. no_way g.rows.started y (started ∙ off);
        rests = λ y. rest off;
      }))

-- a new thread is ready like the others
rests_thread : (k : Rows) (b n : ℕ) (ts : List Timer) → Rests k n ts → Rests (stand (with_thread k b) (length k.threads) ready) n ts
rests_thread k b n ts r = record {
  runner = unfold stand in r.runner;
  ready = λ t l. at_stand (with_thread k b) (length k.threads) ready ready t exists ∙ by_cases (eqb t (length k.threads))
      (λ y. rw (y, same_self ready))
      (λ y. rw y (unfold at in (ap (λ (x : Thread). same x.stands ready) (old_thread k b t (eqb-false t (length k.threads) y)) ∙ r.ready t (below t l (eqb-false t (length k.threads) y)))));
  unowned = unfold stand in r.unowned;
  timers = r.timers;
  count = r.count;
}
  where
    exists : length k.threads < length (with_thread k b).threads
    exists = rw (length_more k.threads (record { base = b; stands = ready })) (omega arith)

    below : (t : ℕ) → t < length (stand (with_thread k b) (length k.threads) ready).threads → (t ≡ length k.threads → ⊥) → t < length k.threads
    below t l e = omega (arith, rw (length_stand (with_thread k b) (length k.threads) ready, length_more k.threads (record { base = b; stands = ready })) at l, e)

module _ {s : State} (o : Sound s) where
  created_thread : (b : ℕ) → length s.scheduler.rows.threads < 32 → 1 ≤ b → b ≤ 15 → Sound (after s (CreateThread b))
  unfolding after effect
  created_thread b room some most = created o (thread_created s.scheduler b) (kept_thread (kept o) b room some most)
      (unfold thread_created arrive stand in refl) (unfold thread_created arrive stand in (omega arith))
      (λ on. unfold thread_created arrive in (going_thread s.scheduler.rows b o.facts (going o on)))
      (λ off. unfold thread_created arrive in (rests_thread s.scheduler.rows b s.count s.timers (o.rests off)))

  created_mutex : (c : ℕ) → length s.scheduler.rows.mutexes < 16 → 1 ≤ c → c ≤ 15 → Sound (after s (CreateMutex c))
  unfolding after effect
  created_mutex c room some most = created o (mutex_created s.scheduler c) (kept_mutex (kept o) c room some most)
      (unfold mutex_created in refl) (unfold mutex_created in (omega arith))
      (λ on. unfold mutex_created in (let g = going o on in record { there = g.there; runs = g.runs; only = g.only }))
      (λ off. unfold mutex_created at in (let r = o.rests off in record {
        runner = r.runner;
        ready = r.ready;
        unowned = λ m. same_owner s.scheduler.rows c m ∙ r.unowned m;
        timers = r.timers;
        count = r.count;
      }))

  created_condition : length s.scheduler.rows.ties < 16 → Sound (after s CreateCondition)
  unfolding after effect
  created_condition room = created o (condition_created s.scheduler) (kept_condition (kept o) room)
      (unfold condition_created in refl) (unfold condition_created in (rw (length_more s.scheduler.rows.ties 255) (omega arith)))
      (λ on. unfold condition_created in (let g = going o on in record { there = g.there; runs = g.runs; only = g.only }))
      (λ off. unfold condition_created at in (let r = o.rests off in record { runner = r.runner; ready = r.ready; unowned = r.unowned; timers = r.timers; count = r.count }))

  created_timer : length s.timers < 32 → Sound (after s CreateTimer)
  unfolding after effect
  created_timer room = by_cases s.scheduler.rows.started
      (λ on. finished false (with_timers s more) (timed o on more few good))
      (λ off. resting (with_timers s more) off false (record {
        facts = o.facts;
        ties = o.ties;
        queued = o.queued;
        few_timers = few;
        timers = good;
        count = o.count;
        live = λ y. no_way s.scheduler.rows.started y off;
        rests = λ y. let r = o.rests off in record { runner = r.runner; ready = r.ready; unowned = r.unowned; timers = none_goes_created s.timers r.timers; count = r.count };
      }))
    where
      more : List Timer
      more = s.timers ++ (stopped_timer ∷ [])

      few : length (s.timers ++ (stopped_timer ∷ [])) ≤ 32
      few = rw (length_more s.timers stopped_timer) (omega arith)

      good : timers_sound s.scheduler.rows (s.timers ++ (stopped_timer ∷ [])) ≡ true
      good = timers_created s.scheduler.rows s.timers o.timers

-- ---- the calls while started

-- the tick count stays in range
wraps : (n : ℕ) → next_count n < 4294967296
wraps n = omega arith

goes_kind : (kind : Kind) → goes (state_of kind) ≡ true
goes_kind OneShot = refl
goes_kind Periodic = refl

-- the second of two tests fails where the first holds and not both do
second_fails : (a b : Bool) → (a && b) ≡ false → a ≡ true → b ≡ false
second_fails true b e q = e
second_fails false b e q = absurd (false≢true q)

module _ {s : State} (o : Sound s) where
  abbrev k : Rows
  k = s.scheduler.rows

  abbrev caller : ℕ
  caller = s.scheduler.rows.runner

  -- the first of the highest ready queue runs, and the scheduler is started
  begins : k.started ≡ false → Effect (effect s Start)
  unfolding effect
  begins off = record {
    kept = record {
      facts = facts_handed g.rows true g.rows.runner c.kept.facts;
      ties = unfold at in c.kept.ties;
      queued = queued_handed g.rows true g.rows.runner c.kept.queued;
    };
    turned = record { there = c.runs.there; only = c.runs.only; either = λ e. c.runs.runs };
    started = refl;
    few_timers = o.few_timers;
    timers = timers_more k (with_started g.rows) s.timers (omega (arith, c.ties)) o.timers;
    count = o.count;
  }
    where
      g : Scheduler
      g = run_first s.scheduler

      none : (t : ℕ) → t < length k.threads → (thread k t).stands ≡ running → ⊥
      none t l e = false≢true (unfold at same in (sym (ap (λ w. same w ready) e) ∙ (o.rests off).ready t l))

      c : Chosen s.scheduler (run_first s.scheduler)
      c = first_runs (kept o) none

  begun : k.started ≡ false → Sound (after s Start)
  unfolding after
  begun off = finished false (effect s Start) (begins off)

  module _ (Going-on : not k.started ≡ false) where
    on : k.started ≡ true
    on = not-false k.started Going-on

    acquires : (m : ℕ) → Clear (tests k s.timers (Acquire m)) → Left Turned s.scheduler (acquired s.scheduler m)
    unfolding tests
    acquires m c = left_acquired (kept o) (going o on) m (leb-false (length k.mutexes) m c.1.0) (eqb-false caller 0 c.1.1.0)
        (λ n. ltb-false (mutex k m).ceiling (priority k caller) (second_fails (not (eqb (mutex k m).owner caller)) (ltb (mutex k m).ceiling (priority k caller)) c.1.1.1.0 (rw (ne_eqb (mutex k m).owner caller n))))
        (λ q. eqb-false (mutex k m).count 255 (second_fails (eqb (mutex k m).owner caller) (eqb (mutex k m).count 255) c.1.1.1.1.0 (eq-eqb (mutex k m).owner caller q)))

    releases : (m : ℕ) → Clear (tests k s.timers (Release m)) → Left Turned s.scheduler (released s.scheduler m)
    unfolding tests
    releases m c = left_turned (left_released (kept o) (going o on) m (leb-false (length k.mutexes) m c.1.0) (eqb-true (mutex k m).owner caller (not-false (eqb (mutex k m).owner caller) c.1.1.0)))

    waiting : (d m : ℕ) → Clear (tests k s.timers (Wait d m)) → Left Turned s.scheduler (waited s.scheduler d m)
    unfolding tests
    waiting d m c = left_waited (kept o) (going o on) d m (eqb-false caller 0 c.1.1.0)
        (leb-false (length k.ties) d (nor_left (leb (length k.ties) d) (leb (length k.mutexes) m) c.1.0))
        (leb-false (length k.mutexes) m (nor_right (leb (length k.ties) d) (leb (length k.mutexes) m) c.1.0))
        (eqb-true (mutex k m).owner caller (not-false (eqb (mutex k m).owner caller) c.1.1.1.0))
        (ltb-false 1 (mutex k m).count (nor_left (ltb 1 (mutex k m).count) (ltb 1 (owned k.mutexes caller)) c.1.1.1.1.0))
        (ltb-false 1 (owned k.mutexes caller) (nor_right (ltb 1 (mutex k m).count) (ltb 1 (owned k.mutexes caller)) c.1.1.1.1.0))
        (λ n. eqb-true (tied k d) m (not-false (eqb (tied k d) m) (second_fails (not (eqb (tied k d) 255)) (not (eqb (tied k d) m)) c.1.1.1.1.1.0 (rw (ne_eqb (tied k d) 255 n)))))

    starts_timer : (i d n : ℕ) (kind : Kind) → d < length k.ties → 1 ≤ n → n ≤ 65535 → timers_sound k (set s.timers i (started_timer d kind n)) ≡ true
    starts_timer i d n kind there some most = timers_set k s.timers i (started_timer d kind n) o.timers (timer_going k (started_timer d kind n) (goes_kind kind) (started_goes (length k.ties) d n kind there some most))

    ticking : Effect (effect s Tick)
    unfolding effect
    ticking = record {
      kept = l.kept;
      turned = turned_going l.caller;
      started = l.started ∙ on;
      few_timers = rw (length-map s.timers ticked) o.few_timers;
      timers = timers_more k (signalled_each s.scheduler (due_conditions s.timers)).rows (map ticked s.timers) (omega (arith, l.ties)) (timers_ticked k s.timers o.timers);
      count = wraps s.count;
    }
      where
        l : Left Going s.scheduler (signalled_each s.scheduler (due_conditions s.timers))
        l = left_each (due_conditions s.timers) (kept o) (going o on) (due_below k s.timers o.timers)

    ticks : Sound (after s Tick)
    unfolding after
    ticks = finished true (effect s Tick) ticking

  -- the effect of an accepted call, where it leaves the scheduler started
  pub effected : (call : Call) → Clear (tests k s.timers call) → (effect s call).scheduler.rows.started ≡ true → Effect (effect s call)
  unfolding tests effect
  effected Start c e = begins c.0
  effected (CreateThread b) c e = record {
    kept = kept_thread (kept o) b (leb-false 32 (length k.threads) c.1.0) (within 1 15 b c.0).0 (within 1 15 b c.0).1;
    turned = unfold thread_created arrive in (turned_going (going_thread k b o.facts (going o (unfold thread_created arrive stand in e))));
    started = e;
    few_timers = o.few_timers;
    timers = timers_more k (thread_created s.scheduler b).rows s.timers (unfold thread_created arrive stand in (omega arith)) o.timers;
    count = o.count;
  }
  effected (CreateMutex b) c e = record {
    kept = kept_mutex (kept o) b (leb-false 16 (length k.mutexes) c.1.0) (within 1 15 b c.0).0 (within 1 15 b c.0).1;
    turned = unfold mutex_created in (let g = going o (unfold mutex_created in e) in turned_going (record { there = g.there; runs = g.runs; only = g.only }));
    started = e;
    few_timers = o.few_timers;
    timers = timers_more k (mutex_created s.scheduler b).rows s.timers (unfold mutex_created in (omega arith)) o.timers;
    count = o.count;
  }
  effected CreateCondition c e = record {
    kept = kept_condition (kept o) (leb-false 16 (length k.ties) c.0);
    turned = unfold condition_created in (let g = going o (unfold condition_created in e) in turned_going (record { there = g.there; runs = g.runs; only = g.only }));
    started = e;
    few_timers = o.few_timers;
    timers = timers_more k (condition_created s.scheduler).rows s.timers (unfold condition_created in (rw (length_more k.ties 255) (omega arith))) o.timers;
    count = o.count;
  }
  effected CreateTimer c e = timed o e (s.timers ++ (stopped_timer ∷ [])) (rw (length_more s.timers stopped_timer) (omega (arith, leb-false 32 (length s.timers) c.0))) (timers_created k s.timers o.timers)
  effected (Acquire m) c e = scheduled o (on c.0) (acquired s.scheduler m) (acquires c.0 m c)
  effected (Release m) c e = scheduled o (on c.0) (released s.scheduler m) (releases c.0 m c)
  effected (Wait d m) c e = scheduled o (on c.0) (waited s.scheduler d m) (waiting c.0 d m c)
  effected (Signal d) c e = scheduled o (on c.0) (signalled s.scheduler d) (left_turned (left_signalled (kept o) (going o (on c.0)) d (leb-false (length k.ties) d c.1.0)))
  effected (Broadcast d) c e = scheduled o (on c.0) (signalled_times 32 s.scheduler d) (left_turned (left_times 32 (kept o) (going o (on c.0)) d (leb-false (length k.ties) d c.1.0)))
  effected (StartTimer i d kind v) c e = timed o (on c.0) (set s.timers i (started_timer d kind (ticks_in v.0))) (rw (length-set s.timers i) o.few_timers)
      (starts_timer c.0 i d (ticks_in v.0) kind (leb-false (length k.ties) d (nor_right (leb (length s.timers) i) (leb (length k.ties) d) c.1.0))
      (omega arith) (ltb-false 65535 (ticks_in v.0) c.1.1.0))
  effected (StopTimer i) c e = timed o (on c.0) (set s.timers i stopped_timer) (rw (length-set s.timers i stopped_timer) o.few_timers) (timers_set k s.timers i stopped_timer o.timers refl)
  effected Tick c e = ticking c.0

  -- then the next thread is chosen
  chosen_after : (call : Call) → Clear (tests k s.timers call) → (effect s call).scheduler.rows.started ≡ true → Sound (after s call)
  unfolding after
  chosen_after call c e = finished (is_tick call) (effect s call) (effected call c e)

  -- a call that is open only while started leaves it started
  still_on : (call : Call) → Clear (tests k s.timers call) → not k.started ≡ false → (effect s call).scheduler.rows.started ≡ k.started → Sound (after s call)
  still_on call c Going-on e = chosen_after call c (e ∙ on Going-on)

  keeps : (call : Call) → Clear (tests k s.timers call) → Sound (after s call)
  unfolding tests
  keeps Start c = begun c.0
  keeps (CreateThread b) c = created_thread o b (leb-false 32 (length k.threads) c.1.0) (within 1 15 b c.0).0 (within 1 15 b c.0).1
  keeps (CreateMutex b) c = created_mutex o b (leb-false 16 (length k.mutexes) c.1.0) (within 1 15 b c.0).0 (within 1 15 b c.0).1
  keeps CreateCondition c = created_condition o (leb-false 16 (length k.ties) c.0)
  keeps CreateTimer c = created_timer o (leb-false 32 (length s.timers) c.0)
  keeps (Acquire m) c = still_on (Acquire m) c c.0 (unfold effect in (acquires c.0 m c).started)
  keeps (Release m) c = still_on (Release m) c c.0 (unfold effect in (releases c.0 m c).started)
  keeps (Wait d m) c = still_on (Wait d m) c c.0 (unfold effect in (waiting c.0 d m c).started)
  keeps (Signal d) c = still_on (Signal d) c c.0 (unfold effect in (left_signalled (kept o) (going o (on c.0)) d (leb-false (length k.ties) d c.1.0)).started)
  keeps (Broadcast d) c = still_on (Broadcast d) c c.0 (unfold effect in (left_times 32 (kept o) (going o (on c.0)) d (leb-false (length k.ties) d c.1.0)).started)
  keeps (StartTimer i d kind v) c = still_on (StartTimer i d kind v) c c.0 (unfold effect in refl)
  keeps (StopTimer i) c = still_on (StopTimer i) c c.0 (unfold effect in refl)
  keeps Tick c = ticks c.0

  -- a call of a sound state leaves a sound state, accepted or refused
  pub sound_stays : (call : Call) → Sound (step_sound s call).state
  unfolding step_sound
  sound_stays call = by_cases (eqb (number_of (verdict_of s call)) 0)
      (λ e. rw e (keeps call (passed s call (eqb-true (number_of (verdict_of s call)) 0 e))))
      (λ e. rw e o)
