-- The engine's verdicts are document 01's: for each call the first of its tests that holds, in the document's order.
-- Assumes nothing.
use Prim.Native.Nat.{ℕ, zero, suc, ◌+◌, ◌%◌, ◌<◌, ◌≤◌}
use mathlib.Core.Path.{◌≡◌, refl, sym, ap, ap₂, ◌∙◌}
use mathlib.Core.Logic.{◌≢◌}
use mathlib.Core.Bool.{Bool, true, false, cond, not, ◌||◌, ◌&&◌}
use mathlib.Core.List.{List, [], ◌∷◌}
use native.Mathlib.Omega.{arith}
use native.Mathlib.Nat.{le_of_suc-le-suc, not-suc-le-zero}
use lib.ListN.{length, get_or}
use lib.Dec.{eqb, ltb, leb}
use borrow.Author.Tests.{ne_eqb, leb-false, not-false}
use Rattle.laws.specs.Lists.{tabulate}
use Rattle.laws.proofs.Bools.{nor_left, nor_right}
use Rattle.laws.proofs.Lists.{get_d_tabulate}
use Rattle.units.specs.declared.Micros.{Micros}
use Rattle.units.specs.Units.{ticks_in, too_long, length_of}
use Rattle.calls.specs.declared.Call.TheVariants.{Start, CreateThread, CreateMutex, CreateCondition, CreateTimer, Acquire, Release, Wait, Signal, Broadcast, StartTimer, StopTimer}
use Rattle.calls.specs.declared.Kind.{Kind}
use Rattle.calls.specs.declared.Verdict.{Verdict}
use Rattle.calls.specs.declared.Verdict.TheVariants.{Stopped, NoSuchId, IdleCaller, OutOfRange, AboveCeiling, NotOwner, CountFull, HoldingMore, TiedElsewhere, TimerRunning, TimerStopped}
use Rattle.calls.specs.Answers.{number_of}
use Rattle.value_tables.specs.declared.Thread as tables
use Rattle.value_effects.specs.declared.Mutex as scheduler
use Rattle.value_effects.specs.Effects.{mutex_of, thread_row_model}
use Rattle.refusals.specs.Verdicts.{created_verdict, room_verdict, start_verdict, acquire_verdict, release_verdict, held_verdict, ids_verdict, id_verdict, delay_verdict, stop_verdict, first_verdict, owned_one, owned_in}
use Rattle.refusals.proofs.Delays.{delay_tests}
use Rattle.rules.specs.State.{TimerState, stopped, one_shot, periodic, Mutex, Rows, State, no_mutex, tied, timer, priority, owned}
use Rattle.rules.specs.Effects.{goes}
use Rattle.rules.specs.Refusals.{Test, ◌⇒◌, verdict, tests, verdict_of}
use Rattle.rules.specs.Page.{timer_code}
use Rattle.rules_soundness.proofs.Facts.{Sound}
use Rattle.value_meaning.specs.Stands.{threads_of, mutex_in, scheduler_of}
use Rattle.value_meaning.proofs.Rows.{small_32, row_read}
use Rattle.value_meaning.proofs.Owning.{mutex_read}
use Rattle.value_meaning.proofs.Sets.{tie_read}
use Rattle.value_engine.specs.Engines.{timer_of, no_timer}
use Rattle.value_engine.specs.Stands.{timer_in, engine_of}

-- ---- verdicts of lists of tests

-- the later tests matter only where the first fails
pub later : (b : Bool) (v : Verdict) (xs ys : List Test) → (b ≡ false → verdict xs ≡ verdict ys) → verdict ((b ⇒ v) ∷ xs) ≡ verdict ((b ⇒ v) ∷ ys)
later true v xs ys h = refl
later false v xs ys h = h refl

-- two tests that tell, then a verdict
pub two_first : (a b : Bool) (v w : Verdict) (z : Verdict) → (number_of v ≡ 0 → ⊥) → (number_of w ≡ 0 → ⊥) → first_verdict (verdict ((a ⇒ v) ∷ (b ⇒ w) ∷ [])) z ≡ cond a v (cond b w z)
unfolding first_verdict
two_first true b v w z p q = rw (ne_eqb (number_of v) 0 p)
two_first false true v w z p q = rw (ne_eqb (number_of w) 0 q)
two_first false false v w z p q = refl

-- ---- what the engine reads

-- a row of a mutex
abbrev mutex_row : Mutex → scheduler.Mutex
mutex_row x = record { ceiling = x.ceiling; owner = x.owner; count = x.count }

-- how many mutexes a thread owns
owned_table : (n : ℕ) (ms : List Mutex) (t : ℕ) → t ≢ 255 → length ms ≤ n → owned_in (tabulate n (λ i. mutex_row (get_or ms i no_mutex))) t ≡ owned ms t
unfolding tabulate owned_in owned owned_one
owned_table zero [] t n h = refl
owned_table zero (x ∷ ms) t n h = absurd (not-suc-le-zero h)
owned_table (suc k) [] t n h = rw (ne_eqb 255 t (λ e. n (sym e))) (omega (arith, owned_table k [] t n (omega arith)))
owned_table (suc k) (x ∷ ms) t n h = ap (λ r. cond (eqb x.owner t) 1 0 + r) (owned_table k ms t n (le_of_suc-le-suc h))

module _ {s : State} (o : Sound s) where
  abbrev k : Rows
  k = s.scheduler.rows

  abbrev caller : ℕ
  caller = s.scheduler.rows.runner

  -- the caller is a thread while started
  caller_small : not k.started ≡ false → s.scheduler.rows.runner < 32
  caller_small on = omega (arith, (o.live (not-false k.started on)).there, o.facts.few)

  row_of : (m : ℕ) → leb (length k.mutexes) m ≡ false → mutex_of (engine_of s).scheduler m ≡ mutex_in s.scheduler.rows m
  row_of m l = unfold engine_of scheduler_of in (mutex_read k m (leb-false (length k.mutexes) m l) o.facts.few_mutexes)

  priority_of : not k.started ≡ false → (thread_row_model (engine_of s).scheduler caller).priority ≡ priority k caller
  priority_of on = unfold engine_of scheduler_of threads_of thread_row_model in (ap (λ (x : tables.Thread). x.priority) (row_read k caller (caller_small on)))

  owned_of : not k.started ≡ false → owned_in (engine_of s).scheduler.mutexes caller ≡ owned k.mutexes caller
  owned_of on = unfold engine_of scheduler_of in (owned_table 16 k.mutexes caller (omega (arith, caller_small on)) o.facts.few_mutexes)

  tie_of_lem : (c : ℕ) → leb (length k.ties) c ≡ false → get_or (engine_of s).scheduler.ties (c % 16) 0 ≡ tied s.scheduler.rows c
  tie_of_lem c l = unfold engine_of scheduler_of in (tie_read k c (omega (arith, leb-false (length k.ties) c l, o.facts.few_ties)))

  timer_of_lem : (i : ℕ) → leb (length s.timers) i ≡ false → timer_of (engine_of s) i ≡ timer_in s.timers i
  timer_of_lem i l = unfold engine_of in (ap (λ j. get_or (tabulate 32 (timer_in s.timers)) j no_timer) (small_32 i small) ∙ get_d_tabulate 32 (timer_in s.timers) i no_timer small)
    where
      small : i < 32
      small = omega (arith, leb-false (length s.timers) i l, o.few_timers)

  -- ---- the verdicts

  pub start_verdict_lem : start_verdict (engine_of s).started ≡ verdict_of s Start
  unfolding start_verdict verdict_of tests engine_of
  start_verdict_lem = refl

  pub thread_verdict : (b : ℕ) → created_verdict b (engine_of s).threads 32 ≡ verdict_of s (CreateThread b)
  unfolding created_verdict verdict_of tests engine_of
  thread_verdict b = refl

  pub mutex_verdict : (b : ℕ) → created_verdict b (engine_of s).mutexes 16 ≡ verdict_of s (CreateMutex b)
  unfolding created_verdict verdict_of tests engine_of
  mutex_verdict b = refl

  pub condition_verdict : room_verdict (engine_of s).conditions 16 ≡ verdict_of s CreateCondition
  unfolding room_verdict verdict_of tests engine_of
  condition_verdict = refl

  pub timer_verdict : room_verdict (engine_of s).timercount 32 ≡ verdict_of s CreateTimer
  unfolding room_verdict verdict_of tests engine_of
  timer_verdict = refl

  pub acquire_verdict_lem : (m : ℕ) → acquire_verdict (engine_of s).started (engine_of s).mutexes m (engine_of s).scheduler.running (mutex_of (engine_of s).scheduler m) (thread_row_model (engine_of s).scheduler (engine_of s).scheduler.running).priority ≡ verdict_of s (Acquire m)
  acquire_verdict_lem m = unfold acquire_verdict verdict_of tests engine_of scheduler_of in (later (not k.started) Stopped (ids row p) (ids (mutex_in k m) (priority k caller)) (λ on.
      later (leb (length k.mutexes) m) NoSuchId (idle row p) (idle (mutex_in k m) (priority k caller)) (λ l. ap₂ (λ r q. verdict (idle r q)) (row_of m l) (priority_of on))))
    where
      idle : scheduler.Mutex → ℕ → List Test
      idle r q = (eqb caller 0 ⇒ IdleCaller) ∷ (not (eqb r.owner caller) && ltb r.ceiling q ⇒ AboveCeiling) ∷ (eqb r.owner caller && eqb r.count 255 ⇒ CountFull) ∷ []

      ids : scheduler.Mutex → ℕ → List Test
      ids r q = (leb (length k.mutexes) m ⇒ NoSuchId) ∷ idle r q

      row : scheduler.Mutex
      row = mutex_of (engine_of s).scheduler m

      p : ℕ
      p = (thread_row_model (engine_of s).scheduler caller).priority

  pub release_verdict_lem : (m : ℕ) → release_verdict (engine_of s).started (engine_of s).mutexes m (engine_of s).scheduler.running (mutex_of (engine_of s).scheduler m).owner ≡ verdict_of s (Release m)
  release_verdict_lem m = unfold release_verdict verdict_of tests engine_of scheduler_of in (later (not k.started) Stopped (ids row) (ids (mutex_in k m)) (λ on.
      later (leb (length k.mutexes) m) NoSuchId (mine row) (mine (mutex_in k m)) (λ l. ap (λ r. verdict (mine r)) (row_of m l))))
    where
      mine : scheduler.Mutex → List Test
      mine r = (not (eqb r.owner caller) ⇒ NotOwner) ∷ []

      ids : scheduler.Mutex → List Test
      ids r = (leb (length k.mutexes) m ⇒ NoSuchId) ∷ mine r

      row : scheduler.Mutex
      row = mutex_of (engine_of s).scheduler m

  pub wait_verdict : (c m : ℕ) → first_verdict (ids_verdict (engine_of s).started (engine_of s).conditions c (engine_of s).mutexes m)
      (held_verdict m (engine_of s).scheduler.running (mutex_of (engine_of s).scheduler m) (owned_in (engine_of s).scheduler.mutexes (engine_of s).scheduler.running) (get_or (engine_of s).scheduler.ties (c % 16) 0)) ≡ verdict_of s (Wait c m)
  wait_verdict c m = unfold ids_verdict held_verdict verdict_of tests engine_of scheduler_of in (
      two_first (not k.started) (leb (length k.ties) c || leb (length k.mutexes) m) Stopped NoSuchId (verdict (held row n t)) (λ e. omega (arith, e)) (λ e. omega (arith, e))
      ∙ later (not k.started) Stopped (ids row n t) (ids (mutex_in k m) (owned k.mutexes caller) (tied k c)) (λ on.
      later (leb (length k.ties) c || leb (length k.mutexes) m) NoSuchId (held row n t) (held (mutex_in k m) (owned k.mutexes caller) (tied k c)) (λ l.
      ap₂ (λ r q. verdict (held r q t)) (row_of m (nor_right (leb (length k.ties) c) (leb (length k.mutexes) m) l)) (owned_of on)
      ∙ ap (λ q. verdict (held (mutex_in k m) (owned k.mutexes caller) q)) (tie_of_lem c (nor_left (leb (length k.ties) c) (leb (length k.mutexes) m) l)))))
    where
      held : scheduler.Mutex → ℕ → ℕ → List Test
      held r q tie = (eqb caller 0 ⇒ IdleCaller) ∷ (not (eqb r.owner caller) ⇒ NotOwner) ∷ (ltb 1 r.count || ltb 1 q ⇒ HoldingMore) ∷ (not (eqb tie 255) && not (eqb tie m) ⇒ TiedElsewhere) ∷ []

      ids : scheduler.Mutex → ℕ → ℕ → List Test
      ids r q tie = (leb (length k.ties) c || leb (length k.mutexes) m ⇒ NoSuchId) ∷ held r q tie

      row : scheduler.Mutex
      row = mutex_of (engine_of s).scheduler m

      n : ℕ
      n = owned_in (engine_of s).scheduler.mutexes caller

      t : ℕ
      t = get_or (engine_of s).scheduler.ties (c % 16) 0

  pub signal_verdict : (c : ℕ) → id_verdict (engine_of s).started (engine_of s).conditions c ≡ verdict_of s (Signal c)
  unfolding id_verdict verdict_of tests engine_of
  signal_verdict c = refl

  pub broadcast_verdict : (c : ℕ) → id_verdict (engine_of s).started (engine_of s).conditions c ≡ verdict_of s (Broadcast c)
  unfolding id_verdict verdict_of tests engine_of
  broadcast_verdict c = refl

  -- a timer's state as a number tells whether it goes
  goes_code : (x : TimerState) → not (eqb (timer_code x) 0) ≡ goes x
  unfolding timer_code
  goes_code stopped = refl
  goes_code one_shot = refl
  goes_code periodic = refl

  stops_code : (x : TimerState) → eqb (timer_code x) 0 ≡ not (goes x)
  unfolding timer_code
  stops_code stopped = refl
  stops_code one_shot = refl
  stops_code periodic = refl

  pub start_timer_verdict_lem : (i c : ℕ) (kind : Kind) (v : Micros) → first_verdict (ids_verdict (engine_of s).started (engine_of s).timercount i (engine_of s).conditions c) (delay_verdict (length_of v) (timer_of (engine_of s) i).state) ≡ verdict_of s (StartTimer i c kind v)
  start_timer_verdict_lem i c kind v = ap (first_verdict (ids_verdict (engine_of s).started (engine_of s).timercount i (engine_of s).conditions c)) (delay_tests v (timer_of (engine_of s) i).state) ∙ (unfold ids_verdict verdict_of tests engine_of in (
      two_first (not k.started) (leb (length s.timers) i || leb (length k.ties) c) Stopped NoSuchId (verdict (delay (not (eqb (timer_of (engine_of s) i).state 0)))) (λ e. omega (arith, e)) (λ e. omega (arith, e))
      ∙ later (not k.started) Stopped (ids (not (eqb (timer_of (engine_of s) i).state 0))) (ids (goes (timer s.timers i).state)) (λ on.
      later (leb (length s.timers) i || leb (length k.ties) c) NoSuchId (delay (not (eqb (timer_of (engine_of s) i).state 0))) (delay (goes (timer s.timers i).state)) (λ l. ap (λ b. verdict (delay b)) (state_of_lem (nor_left (leb (length s.timers) i) (leb (length k.ties) c) l))))))
    where
      delay : Bool → List Test
      delay b = (too_long (ticks_in v.0) ⇒ OutOfRange) ∷ (b ⇒ TimerRunning) ∷ []

      ids : Bool → List Test
      ids b = (leb (length s.timers) i || leb (length k.ties) c ⇒ NoSuchId) ∷ delay b

      state_of_lem : leb (length s.timers) i ≡ false → not (eqb (timer_of (engine_of s) i).state 0) ≡ goes (timer s.timers i).state
      state_of_lem l = ap (λ x. not (eqb x.state 0)) (timer_of_lem i l) ∙ goes_code (timer s.timers i).state

  pub stop_timer_verdict : (i : ℕ) → first_verdict (id_verdict (engine_of s).started (engine_of s).timercount i) (stop_verdict (timer_of (engine_of s) i).state) ≡ verdict_of s (StopTimer i)
  stop_timer_verdict i = unfold id_verdict stop_verdict verdict_of tests engine_of in (
      two_first (not k.started) (leb (length s.timers) i) Stopped NoSuchId (verdict (state (eqb (timer_of (engine_of s) i).state 0))) (λ e. omega (arith, e)) (λ e. omega (arith, e))
      ∙ later (not k.started) Stopped (ids (eqb (timer_of (engine_of s) i).state 0)) (ids (not (goes (timer s.timers i).state))) (λ on.
      later (leb (length s.timers) i) NoSuchId (state (eqb (timer_of (engine_of s) i).state 0)) (state (not (goes (timer s.timers i).state))) (λ l. ap (λ b. verdict (state b)) (ap (λ x. eqb x.state 0) (timer_of_lem i l) ∙ stops_code (timer s.timers i).state))))
    where
      state : Bool → List Test
      state b = (b ⇒ TimerStopped) ∷ []

      ids : Bool → List Test
      ids b = (leb (length s.timers) i ⇒ NoSuchId) ∷ state b
