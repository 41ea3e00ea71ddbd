-- What follows for the kernel of the code, from any sound kernel and through any number of calls and rows: every kernel after them is sound; a running
-- thread never stands below a ready one; ids are given in order and never again; a broadcast leaves none waiting; a timer set for n ticks expires at
-- the nth accepted tick after its start, unless it is stopped first, and not before, and a periodic one again its repeat later each time; none expires
-- before its delay has passed; a stop gives n less the accepted ticks since its start, or the repeat less those since its last expiry, which is 1 to
-- 65,535.
-- Assumes nothing.
use Rattle.std.specs.Prelude.{Option, Some}
use Prim.Native.Nat.{ℕ, ◌+◌, ◌-◌, ◌*◌, ◌%◌, ◌<◌, ◌≤◌}
use mathlib.Core.Path.{◌≡◌, refl, sym, ap, ap₂, ◌∙◌, subst}
use mathlib.Core.Bool.{Bool, true, false, true≢false}
use mathlib.Core.List.{List}
use native.Mathlib.Omega.{arith}
use lib.ListN.{length}
use lib.Dec.{eqb}
use borrow.Author.Tests.{eqb-false}
use Rattle.laws.proofs.Bools.{self}
use Rattle.laws.proofs.Lists.{get_d_tabulate}
use Rattle.units.specs.declared.Micros.{Micros}
use Rattle.units.specs.Units.{ticks_in, repeat_of}
use Rattle.calls.specs.declared.Answer.{Answer}
use Rattle.calls.specs.declared.Call.TheVariants.{Broadcast, StartTimer, StopTimer, Tick}
use Rattle.calls.specs.declared.Call.{Call}
use Rattle.calls.specs.declared.Kind.{Kind}
use Rattle.calls.specs.declared.Kind.TheVariants.{Periodic}
use Rattle.calls.specs.Answers.{number_of}
use Rattle.rules.specs.State.{Where, running, ready, for_mutex, on_condition, same, State, thread, timer, at, priority}
use Rattle.rules.specs.Effects.{goes}
use Rattle.rules.specs.Page.{state_code, object_code}
use Rattle.rules.specs.Refusals.{verdict_of}
use Rattle.rules.specs.Sound.{sound}
use Rattle.rules.specs.Step as step
use Rattle.rules.specs.Step.{runner, accepted, step_decoded}
use Rattle.rules_soundness.proofs.Tested.{sound_facts}
use Rattle.rules_soundness.proofs.Kept.{soundness_is_kept, none_ready_above}
use Rattle.value_tables.specs.declared.Thread.{Thread}
use Rattle.value_tables.specs.Tables.{blank}
use Rattle.value_meaning.specs.Stands.{thread_in, threads_of, scheduler_of}
use Rattle.value_engine.specs.Stands.{engine_of}
use Rattle.book.specs.Answers.{answers_of, final_of}
use Rattle.book.specs.History.{ticks_taken, NeverStops, Expires, repeating, GivesTicks, Table, threads, mutexes, conditions, timers, size, ids_given, up_from}
use Rattle.book.proofs.Accepted.{by_answer}
use Rattle.book.proofs.Demand.{rows_keep}
use Rattle.book.proofs.Expiry.{tick_expires, expires_at_its_tick, never_expires_early, expires_again}
use Rattle.book.proofs.Stops.{stop_gives_1_to_65535, stop_gives_what_is_left, periodic_stop_gives, stop_gives_length_less_ticks, stop_gives_since_last_expiry}
use Rattle.book.proofs.Ids.{ids_in_order}
use Rattle.book.proofs.Emptied.{broadcast_empties}
use Rattle.kernel.specs.declared.Kernel.{Kernel}
use Rattle.kernel.specs.declared.Stepped.{Stepped}
use Rattle.kernel.specs.Kernels.{kernel_of, SoundKernel, stepped_of, Steps}
use Rattle.kernel.proofs.Sound.{state_sound, sound_state}
use Rattle.demand.specs.Demand.{Repeats}
use Rattle.demand.specs.Follows.{row_at, NoneAbove, size_in, NobodyWaits, TickGives}
use Rattle.demand.proofs.Demand.{rows_step}

-- ---- the rows of a kernel are those of the state that it describes

module _ (s : State) (e : sound s ≡ true) where
  -- the row of a thread that exists
  row_in : (t : ℕ) → t < length s.scheduler.rows.threads → row_at (kernel_of s) t ≡ thread_in s.scheduler.rows t
  unfolding engine_of scheduler_of threads_of
  row_in t l =
      let few = (sound_facts s e).facts.few in
      let low : t % 32 ≡ t = omega arith in
      get_d_tabulate 32 (thread_in s.scheduler.rows) (t % 32) blank (omega arith) ∙ ap (thread_in s.scheduler.rows) low

  -- the counts of a kernel
  size_in_lem : (x : Table) → size_in x (kernel_of s) ≡ size x s
  unfolding engine_of
  size_in_lem threads = refl
  size_in_lem mutexes = refl
  size_in_lem conditions = refl
  size_in_lem timers = refl

-- a place by its number in a row
ready_by_number : (w : Where) → state_code w ≡ 1 → w ≡ ready
unfolding state_code
ready_by_number running p = absurd (omega (arith, p))
ready_by_number ready p = refl
ready_by_number (for_mutex m) p = absurd (omega (arith, p))
ready_by_number (on_condition c) p = absurd (omega (arith, p))

condition_by_number : (w : Where) (c : ℕ) → state_code w ≡ 4 → object_code w ≡ c → w ≡ on_condition c
unfolding state_code object_code
condition_by_number running c p q = absurd (omega (arith, p))
condition_by_number ready c p q = absurd (omega (arith, p))
condition_by_number (for_mutex m) c p q = absurd (omega (arith, p))
condition_by_number (on_condition d) c p q = ap on_condition q

-- ---- after any calls and rows

module _ (x : Kernel) (w : SoundKernel x) (rows : List (Option Call)) (answers : List Answer) (y : Kernel) (run : Repeats x rows answers y) where
  abbrev begins : State
  begins = (sound_state x w).0

  ends : (answers ≡ answers_of begins rows) × (y ≡ kernel_of (final_of begins rows))
  ends = rows_step begins (sound_state x w).1 x (sound_state x w).2 rows answers y run

  ends_sound : sound (final_of begins rows) ≡ true
  ends_sound = rows_keep begins (sound_state x w).1 rows

  -- the kernel after them is sound
  pub run_stays_sound : SoundKernel y
  run_stays_sound = state_sound y (final_of begins rows) ends_sound ends.1

  -- the ids given for a table are the numbers from its count on, one after the other, and as many as its count has grown by
  pub kernel_ids_in_order : (table : Table)
      → (ids_given table rows answers ≡ up_from (size_in table x) (length (ids_given table rows answers))) × (size_in table y ≡ size_in table x + length (ids_given table rows answers))
  kernel_ids_in_order table =
      let told = ids_in_order table rows begins (sound_state x w).1 in
      let first : size_in table x ≡ size table begins = ap (size_in table) (sound_state x w).2 ∙ size_in_lem begins (sound_state x w).1 table in
      let last : size_in table y ≡ size table (final_of begins rows) = ap (size_in table) ends.1 ∙ size_in_lem (final_of begins rows) ends_sound table in
      let many : length (ids_given table rows answers) ≡ length (ids_given table rows (answers_of begins rows)) = ap (λ l. length (ids_given table rows l)) ends.0 in (
        ap (ids_given table rows) ends.0 ∙ told.0 ∙ ap₂ up_from (sym first) (sym many),
        last ∙ told.1 ∙ ap₂ (λ a b. a + b) (sym first) (sym many),
      )

-- ---- who runs, and who waits

module _ (s : State) (e : sound s ≡ true) where
  above_none : NoneAbove (kernel_of s)
  unfolding engine_of scheduler_of
  above_none = record {
    none = λ on t l z.
        let here = row_in s e t l in
        let there = row_in s e (runner s) ((sound_facts s e).live on).there in
        let stands : at s.scheduler.rows ready t ≡ true = at_ready t (ready_by_number (thread s.scheduler.rows t).stands (sym (ap (λ (r : Thread). r.state) here) ∙ z)) in
        subst (λ n. n ≤ (row_at (kernel_of s) (runner s)).priority) (sym (ap (λ (r : Thread). r.priority) here))
        (subst (λ n. priority s.scheduler.rows t ≤ n) (sym (ap (λ (r : Thread). r.priority) there)) (none_ready_above s e on t stands));
  }
    where
      at_ready : (t : ℕ) → (thread s.scheduler.rows t).stands ≡ ready → at s.scheduler.rows ready t ≡ true
      at_ready t q = unfold at same in (ap (λ w. same w ready) q)

  waits_none : (c : ℕ) → ((t : ℕ) → at s.scheduler.rows (on_condition c) t ≡ false) → NobodyWaits (kernel_of s) c
  unfolding engine_of
  waits_none c nobody = record {
    none = λ t l z o.
        let here = row_in s e t l in
        let stands = condition_by_number (thread s.scheduler.rows t).stands c (sym (ap (λ (r : Thread). r.state) here) ∙ z) (sym (ap (λ (r : Thread). r.object) here) ∙ o) in
        true≢false (sym (at_condition t stands) ∙ nobody t);
  }
    where
      at_condition : (t : ℕ) → (thread s.scheduler.rows t).stands ≡ on_condition c → at s.scheduler.rows (on_condition c) t ≡ true
      at_condition t q = unfold at same in (ap (λ w. same w (on_condition c)) q ∙ self c)

-- in a sound kernel, and so after any calls and rows, a running thread never stands below a ready one
pub kernel_none_above : (x : Kernel) → SoundKernel x → NoneAbove x
kernel_none_above x w = let s = sound_state x w in subst (λ y. NoneAbove y) (sym s.2) (above_none s.0 s.1)

-- an accepted broadcast leaves nobody waiting on its condition variable
pub kernel_broadcast_empties : (x : Kernel) → SoundKernel x → (c : ℕ) (r : Stepped) → Steps x (Some (Broadcast c)) r → r.answer.number ≡ 0 → NobodyWaits r.kernel c
kernel_broadcast_empties x w c r steps z =
    let s = sound_state x w in
    let is : r ≡ stepped_of (step.step s.0 (Broadcast c)) = unfold step_decoded in (steps.of_sound s.0 s.1 s.2) in
    subst (λ (y : Kernel). NobodyWaits y c) (sym (ap (λ (q : Stepped). q.kernel) is))
    (waits_none (step.step s.0 (Broadcast c)).state (soundness_is_kept s.0 (Broadcast c) s.1) c
    (broadcast_empties s.0 s.1 c (sym (ap (λ (q : Stepped). q.answer.number) is) ∙ z)))

-- ---- when a timer expires, and what a stop of it gives

-- a stop of the kernel of a sound state
stop_told : (s : State) → sound s ≡ true → (y : Kernel) → y ≡ kernel_of s → (i many : ℕ) → GivesTicks (step.step s (StopTimer i)).answer many
    → (r : Stepped) → Steps y (Some (StopTimer i)) r → GivesTicks r.answer many
stop_told s e y d i many told r steps =
    let is : r ≡ stepped_of (step.step s (StopTimer i)) = unfold step_decoded in (steps.of_sound s e d) in
    subst (λ (q : Stepped). GivesTicks q.answer many) (sym is) told

-- a stop that is done gives 1 to 65,535 ticks
pub kernel_stop_gives_1_to_65535 : (x : Kernel) → SoundKernel x → (i : ℕ) (r : Stepped) → Steps x (Some (StopTimer i)) r → r.answer.number ≡ 0 → (1 ≤ r.answer.given) × (r.answer.given ≤ 65535)
kernel_stop_gives_1_to_65535 x w i r steps z =
    let s = sound_state x w in
    let is : r ≡ stepped_of (step.step s.0 (StopTimer i)) = unfold step_decoded in (steps.of_sound s.0 s.1 s.2) in
    subst (λ (q : Stepped). (1 ≤ q.answer.given) × (q.answer.given ≤ 65535)) (sym is)
    (stop_gives_1_to_65535 s.0 s.1 i (sym (ap (λ (q : Stepped). q.answer.number) is) ∙ z))

-- of a timer that runs in the state that a kernel describes, such as a loaded one, a stop gives what is left to it there, less the accepted ticks since,
-- until it is due
pub kernel_stop_gives_what_is_left : (x : Kernel) (s : State) → sound s ≡ true → x ≡ kernel_of s → (i : ℕ) → goes (timer s.timers i).state ≡ true
    → (rows : List (Option Call)) (answers : List Answer) (y : Kernel) → Repeats x rows answers y → NeverStops i rows → ticks_taken rows answers < (timer s.timers i).left
    → (q : Stepped) → Steps y (Some (StopTimer i)) q → GivesTicks q.answer ((timer s.timers i).left - ticks_taken rows answers)
kernel_stop_gives_what_is_left x s e d i runs rows answers y run never few q steps =
    let ends = rows_step s e x d rows answers y run in
    let past = ap (ticks_taken rows) ends.0 in
    let told = stop_gives_what_is_left s e i runs rows never (subst (λ n. n < (timer s.timers i).left) past few) in
    subst (λ n. GivesTicks q.answer ((timer s.timers i).left - n)) (sym past)
    (stop_told (final_of s rows) (rows_keep s e rows) y ends.1 i _ told q steps)

-- and of a periodic one that keeps n, once the ticks that are left to it there have passed, n less the accepted ticks since it last expired
pub kernel_periodic_stop_gives : (x : Kernel) (s : State) → sound s ≡ true → x ≡ kernel_of s → (i n c left : ℕ) → timer s.timers i ≡ repeating n c left
    → (rows : List (Option Call)) (answers : List Answer) (y : Kernel) → Repeats x rows answers y → NeverStops i rows → (turns k : ℕ) → k < n → ticks_taken rows answers ≡ left + (turns * n + k)
    → (q : Stepped) → Steps y (Some (StopTimer i)) q → GivesTicks q.answer (n - k)
kernel_periodic_stop_gives x s e d i n c left is rows answers y run never turns k less total q steps =
    let ends = rows_step s e x d rows answers y run in
    let told = periodic_stop_gives s e i n c left is rows never turns k less (sym (ap (ticks_taken rows) ends.0) ∙ total) in
    stop_told (final_of s rows) (rows_keep s e rows) y ends.1 i _ told q steps

-- an accepted tick of the kernel of a sound state
tick_told : (s : State) → sound s ≡ true → (y : Kernel) → y ≡ kernel_of s → (i c : ℕ) (due : Bool) → Expires s i c due → (r : Stepped) → Steps y (Some Tick) r → r.answer.number ≡ 0 → TickGives y r i c due
tick_told s e y d i c due told r steps z = by_answer s e Tick
    (λ p k. let is : r ≡ stepped_of (accepted s Tick) = first ∙ ap stepped_of p in record {
      state = s;
      right = e;
      describes = d;
      expires = told;
      given = ap (λ (q : Stepped). q.answer.given) is ∙ (tick_expires s).counted;
      signals = (tick_expires s).signals;
      follows = ap (λ (q : Stepped). q.kernel) is;
    })
    (λ p n. absurd (eqb-false (number_of (verdict_of s Tick)) 0 n (sym (ap (λ (q : Stepped). q.answer.number) (first ∙ ap stepped_of p)) ∙ z)))
  where
    first : r ≡ stepped_of (step.step s Tick)
    first = unfold step_decoded in (steps.of_sound s e d)

module _ (x : Kernel) (w : SoundKernel x) (i c : ℕ) (v : Micros) where
  -- the state after an accepted start of the timer
  abbrev started : Kind → State
  started kind = (step.step (sound_state x w).0 (StartTimer i c kind v)).state

  module _ (kind : Kind) (r : Stepped) (begins : Steps x (Some (StartTimer i c kind v)) r) (taken : r.answer.number ≡ 0) where
    start_is : r ≡ stepped_of (step.step (sound_state x w).0 (StartTimer i c kind v))
    start_is = unfold step_decoded in (begins.of_sound (sound_state x w).0 (sound_state x w).1 (sound_state x w).2)

    start_taken : (step.step (sound_state x w).0 (StartTimer i c kind v)).answer.number ≡ 0
    start_taken = sym (ap (λ (q : Stepped). q.answer.number) start_is) ∙ taken

    start_sound : sound (started kind) ≡ true
    start_sound = soundness_is_kept (sound_state x w).0 (StartTimer i c kind v) (sound_state x w).1

    after_start : (rows : List (Option Call)) (answers : List Answer) (y : Kernel) → Repeats r.kernel rows answers y → (answers ≡ answers_of (started kind) rows) × (y ≡ kernel_of (final_of (started kind) rows))
    after_start rows answers y run = rows_step (started kind) start_sound r.kernel (ap (λ (q : Stepped). q.kernel) start_is) rows answers y run

    -- at the nth accepted tick after its start, unless it is stopped first, a timer set for n ticks is among those that given counts and its condition
    -- variable is signalled, and not before
    pub kernel_timer_expires : (rows : List (Option Call)) (answers : List Answer) (y : Kernel) → Repeats r.kernel rows answers y → NeverStops i rows → ticks_taken rows answers < ticks_in v.0
        → (q : Stepped) → Steps y (Some Tick) q → q.answer.number ≡ 0 → TickGives y q i c (eqb (ticks_taken rows answers + 1) (ticks_in v.0))
    kernel_timer_expires rows answers y run never few q steps z =
        let ends = after_start rows answers y run in
        let past = ap (ticks_taken rows) ends.0 in
        let told = expires_at_its_tick (sound_state x w).0 (sound_state x w).1 i c v kind start_taken rows never (subst (λ n. n < ticks_in v.0) past few) in
        subst (λ n. TickGives y q i c (eqb (n + 1) (ticks_in v.0))) (sym past)
        (tick_told (final_of (started kind) rows) (rows_keep (started kind) start_sound rows) y ends.1 i c _ told q steps z)

    -- so it does not expire early: not at a tick that comes while the whole ticks since its start last less than v microseconds
    pub kernel_never_expires_early : (rows : List (Option Call)) (answers : List Answer) (y : Kernel) → Repeats r.kernel rows answers y → NeverStops i rows → ticks_taken rows answers * 1000 < v.0
        → (q : Stepped) → Steps y (Some Tick) q → q.answer.number ≡ 0 → TickGives y q i c false
    kernel_never_expires_early rows answers y run never early q steps z =
        let ends = after_start rows answers y run in
        let past = ap (ticks_taken rows) ends.0 in
        let told = never_expires_early (sound_state x w).0 (sound_state x w).1 i c v kind start_taken rows never (subst (λ n. n * 1000 < v.0) past early) in
        tick_told (final_of (started kind) rows) (rows_keep (started kind) start_sound rows) y ends.1 i c false told q steps z

    -- until then a stop is done and gives n less the accepted ticks since the start
    pub kernel_stop_gives_length_less_ticks : (rows : List (Option Call)) (answers : List Answer) (y : Kernel) → Repeats r.kernel rows answers y → NeverStops i rows
        → ticks_taken rows answers < ticks_in v.0 → (q : Stepped) → Steps y (Some (StopTimer i)) q → GivesTicks q.answer (ticks_in v.0 - ticks_taken rows answers)
    kernel_stop_gives_length_less_ticks rows answers y run never few q steps =
        let ends = after_start rows answers y run in
        let past = ap (ticks_taken rows) ends.0 in
        let told = stop_gives_length_less_ticks (sound_state x w).0 (sound_state x w).1 i c v kind start_taken rows never (subst (λ n. n < ticks_in v.0) past few) in
        subst (λ n. GivesTicks q.answer (ticks_in v.0 - n)) (sym past)
        (stop_told (final_of (started kind) rows) (rows_keep (started kind) start_sound rows) y ends.1 i _ told q steps)

  -- and a periodic one again its repeat later, each time, and at none between
  pub kernel_timer_expires_again : (r : Stepped) → Steps x (Some (StartTimer i c Periodic v)) r → r.answer.number ≡ 0
      → (rows : List (Option Call)) (answers : List Answer) (y : Kernel) → Repeats r.kernel rows answers y → NeverStops i rows
      → (turns k : ℕ) → k < repeat_of (ticks_in v.0) → ticks_taken rows answers ≡ ticks_in v.0 + (turns * repeat_of (ticks_in v.0) + k)
      → (q : Stepped) → Steps y (Some Tick) q → q.answer.number ≡ 0 → TickGives y q i c (eqb (k + 1) (repeat_of (ticks_in v.0)))
  kernel_timer_expires_again r begins taken rows answers y run never turns k less total q steps z =
      let ends = after_start Periodic r begins taken rows answers y run in
      let told = expires_again (sound_state x w).0 (sound_state x w).1 i c v (start_taken Periodic r begins taken) rows never turns k less (sym (ap (ticks_taken rows) ends.0) ∙ total) in
      tick_told (final_of (started Periodic) rows) (rows_keep (started Periodic) (start_sound Periodic r begins taken) rows) y ends.1 i c _ told q steps z

  -- a stop of it gives its repeat less the accepted ticks since it last expired
  pub kernel_stop_gives_since_last_expiry : (r : Stepped) → Steps x (Some (StartTimer i c Periodic v)) r → r.answer.number ≡ 0
      → (rows : List (Option Call)) (answers : List Answer) (y : Kernel) → Repeats r.kernel rows answers y → NeverStops i rows
      → (turns k : ℕ) → k < repeat_of (ticks_in v.0) → ticks_taken rows answers ≡ ticks_in v.0 + (turns * repeat_of (ticks_in v.0) + k)
      → (q : Stepped) → Steps y (Some (StopTimer i)) q → GivesTicks q.answer (repeat_of (ticks_in v.0) - k)
  kernel_stop_gives_since_last_expiry r begins taken rows answers y run never turns k less total q steps =
      let ends = after_start Periodic r begins taken rows answers y run in
      let told = stop_gives_since_last_expiry (sound_state x w).0 (sound_state x w).1 i c v (start_taken Periodic r begins taken) rows never turns k less (sym (ap (ticks_taken rows) ends.0) ∙ total) in
      stop_told (final_of (started Periodic) rows) (rows_keep (started Periodic) (start_sound Periodic r begins taken) rows) y ends.1 i _ told q steps
