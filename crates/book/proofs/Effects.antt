-- What an accepted call does leaves a state and a book the same, and gives the same.
-- Assumes nothing.
use Prim.Native.Nat.{ℕ, ◌+◌, ◌-◌, ◌%◌, ◌<◌, ◌≤◌}
use mathlib.Core.Path.{◌≡◌, refl, sym, ap, ap₂, ◌∙◌, subst}
use mathlib.Core.Bool.{Bool, true, false, not, ◌&&◌, false≢true}
use mathlib.Core.List.{List, [], ◌∷◌, ◌++◌, map, map-append}
use native.Mathlib.Omega.{arith}
use lib.ListN.{length, set}
use lib.Dec.{eqb, ltb, leb}
use borrow.Author.Tests.{eqb-true, eqb-false, eq-eqb, ne_eqb, ltb-false, leb-false, not-false}
use Rattle.laws.proofs.Bools.{nor_left, nor_right}
use Rattle.laws.proofs.Lists.{map_set}
use Rattle.units.specs.Units.{ticks_in}
use Rattle.calls.specs.declared.Call.{Call}
use Rattle.calls.specs.declared.Call.TheVariants.{Start, CreateThread, CreateMutex, CreateCondition, CreateTimer, Acquire, Release, Wait, Signal, Broadcast, StartTimer, StopTimer, Tick}
use Rattle.calls.specs.declared.Kind.{Kind}
use Rattle.calls.specs.declared.Kind.TheVariants.{OneShot, Periodic}
use Rattle.rules.specs.Queues.{First}
use Rattle.rules.specs.Queues as Q
use Rattle.rules.specs.State.{running, ready, same, Rows, Scheduler, State, with_rows, with_started, first_at}
use Rattle.rules.specs.State as S
use Rattle.rules.specs.Next as N
use Rattle.rules.specs.Effects.{thread_created, mutex_created, condition_created, acquired, released, waited, signalled, signalled_times, leavers, state_of, length_kept, started_timer, ticked, due_conditions, signalled_each, next_count, with_scheduler, effect, given}
use Rattle.rules.specs.Effects as E
use Rattle.rules.specs.Refusals.{tests}
use Rattle.rules_soundness.proofs.Tests.{within}
use Rattle.rules_soundness.proofs.Facts.{Sound}
use Rattle.rules_soundness.proofs.Next.{Kept, Turned, Chosen, facts_handed, queued_handed, first_runs}
use Rattle.rules_soundness.proofs.Calls.{Going, turned_going, Left, left_turned, AllBelow, left_acquired, left_released, left_waited, left_signalled, left_times, left_each}
use Rattle.rules_soundness.proofs.Creating.{kept_thread, kept_mutex, kept_condition, going_thread}
use Rattle.rules_soundness.proofs.Timers.{due_below}
use Rattle.rules_soundness.proofs.Keeping.{Clear, kept, going}
use Rattle.book.specs.Book.{Book, Timer, stopped_timer, with_timers, now_started, next_tick, highest_earliest}
use Rattle.book.specs.Turns.{Outcome, run_first, create_thread, acquire, release, wait, signal, signals, kind_state, kind_length, expire_below, outcome}
use Rattle.book.proofs.Alike.{Alike, threads_alike}
use Rattle.book.proofs.Next.{alike_first}
use Rattle.book.proofs.Calls.{alike_acquired, alike_released, alike_waited, alike_signalled, given_signalled, alike_times, given_times}
use Rattle.book.proofs.Creating.{alike_thread, alike_mutex, alike_condition}
use Rattle.book.proofs.Enough.{signals_enough}
use Rattle.book.proofs.Timers.{Timeless, left_at, all_ticked, timeless_first, timeless_acquire, timeless_release, timeless_wait, timeless_wake, timeless_signals, tick_alike, tick_given, tick_timers, tick_count}
use Rattle.book.proofs.Same.{Same, timers_in, timers_in_lem, timer_in_lem, stopped_left}

-- what is left to the rule of three: the same state and book, and, while started, what the choice of the next thread needs
pub record BeforeNext (e : State) (l : Book) : Type 0 where
  pub same : Same e l
  pub turning : e.scheduler.rows.started ≡ true → Kept e.scheduler × Turned e.scheduler.rows

-- ---- an effect on one part

module _ {s : State} {b : Book} (x : Same s b) where
  -- on the scheduler alone
  scheduled : (g : Scheduler) (l : Book) → Alike g l → Timeless b l → Same (with_scheduler s g) l
  scheduled g l a t = record {
    alike = a;
    count = x.count ∙ ap (λ n. n % 4294967296) (sym t.count);
    timers = x.timers ∙ ap₂ (λ n xs. map (left_at n) xs) (sym t.count) (sym t.timers);
  }

  -- on the timers alone
  timed : (ts : List S.Timer) (xs : List Timer) → ts ≡ map (left_at b.count) xs → Same (E.with_timers s ts) (with_timers b xs)
  timed ts xs e = record { alike = record { rows = x.alike.rows; marked = x.alike.marked }; count = x.count; timers = e }

  -- with what is left to the rule of three
  before_next : (g : Scheduler) (l : Book) → Left Turned s.scheduler g → Alike g l → Timeless b l → BeforeNext (with_scheduler s g) l
  before_next g l z a t = record { same = scheduled g l a t; turning = λ e. (z.kept, z.caller) }

  timed_before_next : Sound s → (ts : List S.Timer) (xs : List Timer) → ts ≡ map (left_at b.count) xs → BeforeNext (E.with_timers s ts) (with_timers b xs)
  timed_before_next o ts xs e = record { same = timed ts xs e; turning = λ on. (kept o, turned_going (going o on)) }

-- ---- 1

-- who runs first does not ask whether it is started
start_first : (h : Scheduler) (f : First) → N.run (with_rows h (with_started h.rows)) f ≡ with_rows (N.run h f) (with_started (N.run h f).rows)
unfolding N.run S.stand S.depart
start_first h Q.nobody = refl
start_first h (Q.somebody p t) = refl

module _ {s : State} (o : Sound s) {b : Book} (x : Same s b) (off : s.scheduler.rows.started ≡ false) where
  abbrev h : Scheduler
  h = s.scheduler

  nobody_runs : (t : ℕ) → t < length h.rows.threads → (S.thread h.rows t).stands ≡ running → ⊥
  nobody_runs t l e = false≢true (unfold S.at same in (sym (ap (λ w. same w ready) e) ∙ (o.rests off).ready t l))

  chosen : Chosen h (N.run_first h)
  chosen = first_runs (kept o) nobody_runs

  started_alike : Alike (with_rows (N.run_first h) (with_started (N.run_first h).rows)) (run_first (now_started b))
  started_alike = subst (λ g. Alike g (run_first (now_started b))) first_started
      (alike_first (record { rows = ap with_started x.alike.rows; marked = x.alike.marked }) (queued_handed h.rows true h.rows.runner o.queued))
    where
      first_started : N.run_first (with_rows h (with_started h.rows)) ≡ with_rows (N.run_first h) (with_started (N.run_first h).rows)
      first_started = unfold N.run_first in (start_first h (first_at h ready))

  start_before_next : BeforeNext (with_scheduler s (with_rows (N.run_first h) (with_started (N.run_first h).rows))) (run_first (now_started b))
  start_before_next = record {
    same = scheduled x (with_rows (N.run_first h) (with_started (N.run_first h).rows)) (run_first (now_started b)) started_alike
        (let t = timeless_first (now_started b) in record { timers = t.timers; count = t.count });
    turning = λ e. (
      record {
        facts = facts_handed (N.run_first h).rows true (N.run_first h).rows.runner chosen.kept.facts;
        ties = unfold S.at in chosen.kept.ties;
        queued = queued_handed (N.run_first h).rows true (N.run_first h).rows.runner chosen.kept.queued;
      },
      record { there = chosen.runs.there; only = chosen.runs.only; either = λ z. chosen.runs.runs },
    );
  }

-- ---- 2 to 4

module _ {s : State} (o : Sound s) {b : Book} (x : Same s b) where
  thread_before_next : (p : ℕ) → length s.scheduler.rows.threads < 32 → 1 ≤ p → p ≤ 15 → BeforeNext (with_scheduler s (thread_created s.scheduler p)) (create_thread b p)
  thread_before_next p room some most = record {
    same = scheduled x (thread_created s.scheduler p) (create_thread b p) (alike_thread x.alike (kept o) p room (omega arith)) (unfold create_thread in record { timers = refl; count = refl });
    turning = λ on. (kept_thread (kept o) p room some most, unfold thread_created S.arrive in (turned_going (going_thread s.scheduler.rows p o.facts (going o (unfold thread_created S.arrive S.stand in on)))));
  }

  mutex_before_next : (c : ℕ) → length s.scheduler.rows.mutexes < 16 → 1 ≤ c → c ≤ 15 → BeforeNext (effect s (CreateMutex c)) (outcome b (CreateMutex c)).book
  unfolding effect outcome
  mutex_before_next c room some most = record {
    same = record { alike = alike_mutex x.alike (kept o) c; count = x.count; timers = x.timers };
    turning = λ on. (kept_mutex (kept o) c room some most, unfold mutex_created in (let g = going o (unfold mutex_created in on) in turned_going (record { there = g.there; runs = g.runs; only = g.only })));
  }

  condition_before_next : length s.scheduler.rows.ties < 16 → BeforeNext (effect s CreateCondition) (outcome b CreateCondition).book
  unfolding effect outcome
  condition_before_next room = record {
    same = record { alike = alike_condition x.alike (kept o); count = x.count; timers = x.timers };
    turning = λ on. (kept_condition (kept o) room, unfold condition_created in (let g = going o (unfold condition_created in on) in turned_going (record { there = g.there; runs = g.runs; only = g.only })));
  }

-- ---- 6 to 13

-- the second of two tests fails where the first holds and not both do
second_fails : (a b : Bool) → (a && b) ≡ false → a ≡ true → b ≡ false
second_fails true b e q = e
second_fails false b e q = absurd (false≢true q)

kind_alike : (kind : Kind) → state_of kind ≡ kind_state kind
unfolding kind_state
kind_alike OneShot = refl
kind_alike Periodic = refl

-- the n that is kept is the same
length_alike : (kind : Kind) (n : ℕ) → length_kept kind n ≡ kind_length kind n
unfolding kind_length
length_alike OneShot n = refl
length_alike Periodic n = refl

module _ {s : State} (o : Sound s) {b : Book} (x : Same s b) (Going-on : not s.scheduler.rows.started ≡ false) where
  abbrev rows : Rows
  rows = s.scheduler.rows

  abbrev caller : ℕ
  caller = s.scheduler.rows.runner

  on : rows.started ≡ true
  on = not-false rows.started Going-on

  acquire_before_next : (m : ℕ) → Clear (tests rows s.timers (Acquire m)) → BeforeNext (with_scheduler s (acquired s.scheduler m)) (acquire b m)
  unfolding tests
  acquire_before_next m c = before_next x (acquired s.scheduler m) (acquire b m)
      (left_acquired (kept o) (going o on) m real (eqb-false caller 0 c.1.1.0)
      (λ n. ltb-false (S.mutex rows m).ceiling (S.priority rows caller)
      (second_fails (not (eqb (S.mutex rows m).owner caller)) (ltb (S.mutex rows m).ceiling (S.priority rows caller)) c.1.1.1.0 (rw (ne_eqb (S.mutex rows m).owner caller n))))
      (λ q. eqb-false (S.mutex rows m).count 255 (second_fails (eqb (S.mutex rows m).owner caller) (eqb (S.mutex rows m).count 255) c.1.1.1.1.0 (eq-eqb (S.mutex rows m).owner caller q))))
      (alike_acquired x.alike (kept o) (going o on) m real) (timeless_acquire b m)
    where
      real : m < length rows.mutexes
      real = leb-false (length rows.mutexes) m c.1.0

  release_before_next : (m : ℕ) → Clear (tests rows s.timers (Release m)) → BeforeNext (with_scheduler s (released s.scheduler m)) (release b m)
  unfolding tests
  release_before_next m c = before_next x (released s.scheduler m) (release b m) (left_turned (left_released (kept o) (going o on) m real mine))
      (alike_released x.alike (kept o) (going o on) m real mine) (timeless_release b m)
    where
      real : m < length rows.mutexes
      real = leb-false (length rows.mutexes) m c.1.0

      mine : (S.mutex rows m).owner ≡ caller
      mine = eqb-true (S.mutex rows m).owner caller (not-false (eqb (S.mutex rows m).owner caller) c.1.1.0)

  wait_before_next : (d m : ℕ) → Clear (tests rows s.timers (Wait d m)) → BeforeNext (with_scheduler s (waited s.scheduler d m)) (wait b d m)
  unfolding tests
  wait_before_next d m c = before_next x (waited s.scheduler d m) (wait b d m)
      (left_waited (kept o) (going o on) d m (eqb-false caller 0 c.1.1.0) there real mine
      (ltb-false 1 (S.mutex rows m).count (nor_left (ltb 1 (S.mutex rows m).count) (ltb 1 (S.owned rows.mutexes caller)) c.1.1.1.1.0))
      (ltb-false 1 (S.owned rows.mutexes caller) (nor_right (ltb 1 (S.mutex rows m).count) (ltb 1 (S.owned rows.mutexes caller)) c.1.1.1.1.0))
      (λ n. eqb-true (S.tied rows d) m (not-false (eqb (S.tied rows d) m) (second_fails (not (eqb (S.tied rows d) 255)) (not (eqb (S.tied rows d) m)) c.1.1.1.1.1.0 (rw (ne_eqb (S.tied rows d) 255 n))))))
      (alike_waited x.alike (kept o) (going o on) d m there real mine) (timeless_wait b d m)
    where
      there : d < length rows.ties
      there = leb-false (length rows.ties) d (nor_left (leb (length rows.ties) d) (leb (length rows.mutexes) m) c.1.0)

      real : m < length rows.mutexes
      real = leb-false (length rows.mutexes) m (nor_right (leb (length rows.ties) d) (leb (length rows.mutexes) m) c.1.0)

      mine : (S.mutex rows m).owner ≡ caller
      mine = eqb-true (S.mutex rows m).owner caller (not-false (eqb (S.mutex rows m).owner caller) c.1.1.1.0)

  -- a signal, and as many as there are threads
  module _ (d : ℕ) (there : d < length rows.ties) where
    signal_before_next : BeforeNext (with_scheduler s (signalled s.scheduler d)) (signal b d).book
    signal_before_next = before_next x (signalled s.scheduler d) (signal b d).book (left_turned (left_signalled (kept o) (going o on) d there))
        (alike_signalled x.alike (kept o) d there) (timeless_wake b d (highest_earliest b (S.on_condition d)))

    as_many : signals 32 b d ≡ signals (length b.threads) b d
    as_many = signals_enough b d (subst (λ n. n ≤ 32) (threads_alike x.alike) o.facts.few)

    broadcast_before_next : BeforeNext (with_scheduler s (signalled_times 32 s.scheduler d)) (signals (length b.threads) b d).book
    broadcast_before_next = before_next x (signalled_times 32 s.scheduler d) (signals (length b.threads) b d).book (left_turned (left_times 32 (kept o) (going o on) d there))
        (subst (λ (q : Outcome). Alike (signalled_times 32 s.scheduler d) q.book) as_many (alike_times 32 x.alike (kept o) (going o on) d there)) (timeless_signals (length b.threads) b d)

    broadcast_given : leavers 32 s.scheduler d ≡ (signals (length b.threads) b d).given
    broadcast_given = given_times 32 x.alike (kept o) (going o on) d there ∙ ap (λ (q : Outcome). q.given) as_many

  -- the tick
  exist : AllBelow (length rows.ties) (due_conditions (timers_in b))
  exist = subst (λ ts. AllBelow (length rows.ties) (due_conditions ts)) x.timers (due_below rows s.timers o.timers)

  tick_before_next : BeforeNext (effect s Tick) (expire_below (length b.timers) (next_tick b)).book
  unfolding effect
  tick_before_next = record {
    same = record {
      alike = subst (λ ts. Alike (signalled_each s.scheduler (due_conditions ts)) (expire_below (length b.timers) (next_tick b)).book) (sym x.timers) (tick_alike x.alike (kept o) (going o on) exist);
      count = ap next_count x.count ∙ wrapped b.count ∙ ap (λ n. n % 4294967296) (sym (tick_count x.alike (kept o) (going o on) exist));
      timers = ap (map ticked) x.timers ∙ all_ticked b.count b.timers
          ∙ ap₂ (λ n xs. map (left_at n) xs) (sym (tick_count x.alike (kept o) (going o on) exist)) (sym (tick_timers x.alike (kept o) (going o on) exist));
    };
    turning = λ e. (z.kept, turned_going z.caller);
  }
    where
      wrapped : (n : ℕ) → next_count (n % 4294967296) ≡ (n + 1) % 4294967296
      wrapped n = omega arith

      z : Left Going s.scheduler (signalled_each s.scheduler (due_conditions s.timers))
      z = left_each (due_conditions s.timers) (kept o) (going o on) (due_below rows s.timers o.timers)

-- ---- the thirteen calls

module _ {s : State} (o : Sound s) {b : Book} (x : Same s b) where
  pub call_before_next : (call : Call) → Clear (tests s.scheduler.rows s.timers call) → BeforeNext (effect s call) (outcome b call).book
  unfolding tests effect outcome
  call_before_next Start c = start_before_next o x c.0
  call_before_next (CreateThread p) c = thread_before_next o x p (leb-false 32 (length s.scheduler.rows.threads) c.1.0) (within 1 15 p c.0).0 (within 1 15 p c.0).1
  call_before_next (CreateMutex p) c = mutex_before_next o x p (leb-false 16 (length s.scheduler.rows.mutexes) c.1.0) (within 1 15 p c.0).0 (within 1 15 p c.0).1
  call_before_next CreateCondition c = condition_before_next o x (leb-false 16 (length s.scheduler.rows.ties) c.0)
  call_before_next CreateTimer c = timed_before_next x o (s.timers ++ (S.stopped_timer ∷ [])) (b.timers ++ (stopped_timer ∷ []))
      (ap₂ (λ ts t. ts ++ (t ∷ [])) x.timers (sym (stopped_left b.count)) ∙ sym (map-append (left_at b.count) b.timers (stopped_timer ∷ [])))
  call_before_next (Acquire m) c = acquire_before_next o x c.0 m c
  call_before_next (Release m) c = release_before_next o x c.0 m c
  call_before_next (Wait d m) c = wait_before_next o x c.0 d m c
  call_before_next (Signal d) c = signal_before_next o x c.0 d (leb-false (length s.scheduler.rows.ties) d c.1.0)
  call_before_next (Broadcast d) c = broadcast_before_next o x c.0 d (leb-false (length s.scheduler.rows.ties) d c.1.0)
  call_before_next (StartTimer i d kind v) c = timed_before_next x o (set s.timers i (started_timer d kind (ticks_in v.0)))
      (set b.timers i (record { state = kind_state kind; condition = d; length = kind_length kind (ticks_in v.0); due = b.count + ticks_in v.0 }))
      (ap₂ (λ ts t. set ts i t) x.timers (λ j. record { state = kind_alike kind j; condition = d; length = length_alike kind (ticks_in v.0) j; left = whole j })
      ∙ sym (map_set (left_at b.count) b.timers i (record { state = kind_state kind; condition = d; length = kind_length kind (ticks_in v.0); due = b.count + ticks_in v.0 })))
    where
      whole : ticks_in v.0 ≡ b.count + ticks_in v.0 - b.count
      whole = omega arith
  call_before_next (StopTimer i) c = timed_before_next x o (set s.timers i S.stopped_timer) (set b.timers i stopped_timer)
      (ap₂ (λ ts t. set ts i t) x.timers (sym (stopped_left b.count)) ∙ sym (map_set (left_at b.count) b.timers i stopped_timer))
  call_before_next Tick c = tick_before_next o x c.0

  pub call_given : (call : Call) → Clear (tests s.scheduler.rows s.timers call) → given s call ≡ (outcome b call).given
  unfolding tests given outcome
  call_given Start c = refl
  call_given (CreateThread p) c = threads_alike x.alike
  call_given (CreateMutex p) c = ap (λ (k : Rows). length k.mutexes) x.alike.rows
  call_given CreateCondition c = ap (λ (k : Rows). length k.ties) x.alike.rows
  call_given CreateTimer c = ap length x.timers ∙ timers_in_lem b
  call_given (Acquire m) c = refl
  call_given (Release m) c = refl
  call_given (Wait d m) c = refl
  call_given (Signal d) c = given_signalled x.alike (kept o) d (leb-false (length s.scheduler.rows.ties) d c.1.0)
  call_given (Broadcast d) c = broadcast_given o x c.0 d (leb-false (length s.scheduler.rows.ties) d c.1.0)
  call_given (StartTimer i d kind v) c = refl
  call_given (StopTimer i) c = ap (λ (ts : List S.Timer). (S.timer ts i).left) x.timers ∙ ap (λ (t : S.Timer). t.left) (timer_in_lem b i)
  call_given Tick c = ap (λ ts. length (due_conditions ts)) x.timers ∙ tick_given x.alike (kept o) (going o (on o x c.0)) (exist o x c.0)
