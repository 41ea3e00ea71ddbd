-- Ids are given in order and never again: the accepted calls that create in one table give one number after the other, from the number of those
-- that are there at the beginning.
-- Assumes nothing.
use Rattle.std.specs.Prelude.{Option, Some, None}
use Prim.Native.Nat.{ℕ, suc, ◌+◌, ◌<◌, ◌≤◌}
use mathlib.Core.Path.{◌≡◌, refl, sym, ap, ap₂, ◌∙◌, subst}
use mathlib.Core.Bool.{Bool, true, false, cond, ◌&&◌, false≢true}
use mathlib.Core.Logic.{◌⊎◌, inl, inr}
use mathlib.Core.List.{List, [], ◌∷◌, ◌++◌}
use native.Mathlib.Omega.{arith}
use lib.ListN.{get_or, length, length-set, length-map, length-append}
use lib.Dec.{eqb}
use borrow.Author.Tests.{eqb-true, ne_eqb}
use Rattle.laws.proofs.Bools.{no_way, and-true, and_false, cond_false}
use Rattle.units.specs.Units.{ticks_in}
use Rattle.calls.specs.declared.Call.{Call}
use Rattle.calls.specs.declared.Call.TheVariants.{Start, CreateThread, CreateMutex, CreateCondition, CreateTimer, Acquire, Release, Wait, Signal, Broadcast, StartTimer, StopTimer, Tick}
use Rattle.rules.specs.State.{ready, Thread, Timer, Rows, Scheduler, State, stopped_timer, with_threads, with_rows}
use Rattle.rules.specs.Next.{choose_next}
use Rattle.rules.specs.Effects.{started_timer, ticked, thread_created, mutex_created, condition_created, due_conditions, with_scheduler, with_timers, effect, given}
use Rattle.rules.specs.Sound.{sound}
use Rattle.rules.specs.Step.{Stepped, is_tick, after, step, step_decoded}
use Rattle.rules_soundness.proofs.Sizes.{Sizes, sizes_same, sizes_arrive, sizes_first, sizes_next, sizes_acquired, sizes_released, sizes_waited, sizes_signalled, sizes_times, sizes_each}
use Rattle.rules_soundness.proofs.Kept.{decoded_keeps}
use Rattle.book.specs.Answers.{answers_of, final_of}
use Rattle.book.specs.History.{call_number, accepts, Table, threads, mutexes, conditions, timers, creator, size, ids_given, up_from}
use Rattle.book.proofs.Accepted.{by_answer, after_unchosen}

-- ---- one row

-- how many threads, mutexes and condition variables there are
abbrev sizes : Rows → List ℕ
sizes k = length k.threads ∷ length k.mutexes ∷ length k.ties ∷ []

-- a scheduler with as many of each
sizes_alike : {h g : Scheduler} → Sizes h g → sizes g.rows ≡ sizes h.rows
sizes_alike z = λ i. z.threads i ∷ z.mutexes i ∷ z.ties i ∷ []

-- the tables of a state by those of its scheduler and its timers
size_of : Table → List ℕ → ℕ → ℕ
size_of threads l n = get_or l 0 0
size_of mutexes l n = get_or l 1 0
size_of conditions l n = get_or l 2 0
size_of timers l n = n

size_of_lem : (x : Table) (s : State) → size x s ≡ size_of x (sizes s.scheduler.rows) (length s.timers)
unfolding size_of
size_of_lem threads s = refl
size_of_lem mutexes s = refl
size_of_lem conditions s = refl
size_of_lem timers s = refl

-- states with as many of each
size_same : (x : Table) (s r : State) → Sizes s.scheduler r.scheduler → length r.timers ≡ length s.timers → size x r ≡ size x s
size_same x s r k l = size_of_lem x r ∙ ap₂ (size_of x) (sizes_alike k) l ∙ sym (size_of_lem x s)

-- a table after a call: one more where the call creates there
unfoldable grown : Table → Call → ℕ → ℕ
grown x call n = cond (eqb (call_number call) (creator x)) (suc n) n

creator_from : (x : Table) → 2 ≤ creator x
creator_from threads = omega arith
creator_from mutexes = omega arith
creator_from conditions = omega arith
creator_from timers = omega arith

creator_to : (x : Table) → creator x ≤ 5
creator_to threads = omega arith
creator_to mutexes = omega arith
creator_to conditions = omega arith
creator_to timers = omega arith

module _ (x : Table) (s : State) where
  -- a call that is not 2 to 5 creates nothing
  uncreated : (call : Call) (r : State) → (call_number call < 2) ⊎ (5 < call_number call) → size x r ≡ size x s → size x r ≡ grown x call (size x s)
  unfolding grown
  uncreated call r low p = p ∙ sym (cond_false (eqb (call_number call) (creator x)) (suc (size x s)) (size x s) (ne_eqb (call_number call) (creator x) (λ z. apart low z)))
    where
      apart : (call_number call < 2) ⊎ (5 < call_number call) → call_number call ≡ creator x → ⊥
      apart (inl l) z = omega (arith, creator_from x)
      apart (inr l) z = omega (arith, creator_to x)

  -- the scheduler alone changes, and has as many of each
  kept : (call : Call) (h : Scheduler) → (call_number call < 2) ⊎ (5 < call_number call) → sizes h.rows ≡ sizes s.scheduler.rows → size x (with_scheduler s h) ≡ grown x call (size x s)
  kept call h low k = uncreated call (with_scheduler s h) low (size_of_lem x (with_scheduler s h) ∙ ap (λ l. size_of x l (length s.timers)) k ∙ sym (size_of_lem x s))

  -- the timers alone change, and are as many
  timed : (call : Call) (ts : List Timer) → (call_number call < 2) ⊎ (5 < call_number call) → length ts ≡ length s.timers → size x (with_timers s ts) ≡ grown x call (size x s)
  timed call ts low l = uncreated call (with_timers s ts) low (size_same x s (with_timers s ts) (sizes_same s.scheduler) l)

-- the four tables after each of the four calls that create
module _ (s : State) where
  made_thread : (x : Table) (base : ℕ) → size_of x (suc (length s.scheduler.rows.threads) ∷ length s.scheduler.rows.mutexes ∷ length s.scheduler.rows.ties ∷ []) (length s.timers) ≡ grown x (CreateThread base) (size x s)
  unfolding size_of grown call_number
  made_thread threads base = refl
  made_thread mutexes base = refl
  made_thread conditions base = refl
  made_thread timers base = refl

  made_mutex : (x : Table) (ceiling : ℕ) → size_of x (length s.scheduler.rows.threads ∷ suc (length s.scheduler.rows.mutexes) ∷ length s.scheduler.rows.ties ∷ []) (length s.timers) ≡ grown x (CreateMutex ceiling) (size x s)
  unfolding size_of grown call_number
  made_mutex threads ceiling = refl
  made_mutex mutexes ceiling = refl
  made_mutex conditions ceiling = refl
  made_mutex timers ceiling = refl

  made_condition : (x : Table) → size_of x (length s.scheduler.rows.threads ∷ length s.scheduler.rows.mutexes ∷ suc (length s.scheduler.rows.ties) ∷ []) (length s.timers) ≡ grown x CreateCondition (size x s)
  unfolding size_of grown call_number
  made_condition threads = refl
  made_condition mutexes = refl
  made_condition conditions = refl
  made_condition timers = refl

  made_timer : (x : Table) → size_of x (sizes s.scheduler.rows) (suc (length s.timers)) ≡ grown x CreateTimer (size x s)
  unfolding size_of grown call_number
  made_timer threads = refl
  made_timer mutexes = refl
  made_timer conditions = refl
  made_timer timers = refl

-- one at the end makes a list one longer
one_longer : {A : Type 0} (l : List A) (a : A) → length (l ++ (a ∷ [])) ≡ suc (length l)
one_longer l a = length-append l (a ∷ []) ∙ omega arith

thread_more : (h : Scheduler) (base : ℕ) → sizes (thread_created h base).rows ≡ suc (length h.rows.threads) ∷ length h.rows.mutexes ∷ length h.rows.ties ∷ []
unfolding thread_created
thread_more h base =
    let new : Thread = record { base = base; stands = ready } in
    sizes_alike (sizes_arrive (with_rows h (with_threads h.rows (h.rows.threads ++ (new ∷ [])))) (length h.rows.threads) ready)
    ∙ ap (λ n. n ∷ length h.rows.mutexes ∷ length h.rows.ties ∷ []) (one_longer h.rows.threads new)

mutex_more : (h : Scheduler) (ceiling : ℕ) → sizes (mutex_created h ceiling).rows ≡ length h.rows.threads ∷ suc (length h.rows.mutexes) ∷ length h.rows.ties ∷ []
unfolding mutex_created
mutex_more h ceiling =
    ap (λ n. length h.rows.threads ∷ n ∷ length h.rows.ties ∷ []) (one_longer h.rows.mutexes (record { ceiling = ceiling; owner = 255; count = 0 }))

condition_more : (h : Scheduler) → sizes (condition_created h).rows ≡ length h.rows.threads ∷ length h.rows.mutexes ∷ suc (length h.rows.ties) ∷ []
unfolding condition_created
condition_more h = ap (λ n. length h.rows.threads ∷ length h.rows.mutexes ∷ n ∷ []) (one_longer h.rows.ties 255)

effect_size : (x : Table) (s : State) (call : Call) → size x (effect s call) ≡ grown x call (size x s)
unfolding effect call_number
effect_size x s Start = kept x s Start _ (inl (omega arith)) (sizes_alike (sizes_first s.scheduler))
effect_size x s (CreateThread base) = size_of_lem x (effect s (CreateThread base)) ∙ ap (λ l. size_of x l (length s.timers)) (thread_more s.scheduler base) ∙ made_thread s x base
effect_size x s (CreateMutex ceiling) = size_of_lem x (effect s (CreateMutex ceiling)) ∙ ap (λ l. size_of x l (length s.timers)) (mutex_more s.scheduler ceiling) ∙ made_mutex s x ceiling
effect_size x s CreateCondition = size_of_lem x (effect s CreateCondition) ∙ ap (λ l. size_of x l (length s.timers)) (condition_more s.scheduler) ∙ made_condition s x
effect_size x s CreateTimer = size_of_lem x (effect s CreateTimer) ∙ ap (size_of x (sizes s.scheduler.rows)) (one_longer s.timers stopped_timer) ∙ made_timer s x
effect_size x s (Acquire m) = kept x s (Acquire m) _ (inr (omega arith)) (sizes_alike (sizes_acquired s.scheduler m))
effect_size x s (Release m) = kept x s (Release m) _ (inr (omega arith)) (sizes_alike (sizes_released s.scheduler m))
effect_size x s (Wait c m) = kept x s (Wait c m) _ (inr (omega arith)) (sizes_alike (sizes_waited s.scheduler c m))
effect_size x s (Signal c) = kept x s (Signal c) _ (inr (omega arith)) (sizes_alike (sizes_signalled s.scheduler c))
effect_size x s (Broadcast c) = kept x s (Broadcast c) _ (inr (omega arith)) (sizes_alike (sizes_times 32 s.scheduler c))
effect_size x s (StartTimer i c kind v) = timed x s (StartTimer i c kind v) _ (inr (omega arith)) (length-set s.timers i (started_timer c kind (ticks_in v.0)))
effect_size x s (StopTimer i) = timed x s (StopTimer i) _ (inr (omega arith)) (length-set s.timers i stopped_timer)
effect_size x s Tick = uncreated x s Tick (effect s Tick) (inr (omega arith)) (size_same x s (effect s Tick) (sizes_each (due_conditions s.timers) s.scheduler) (length-map s.timers ticked))

-- the choice of the next thread creates nothing
after_size : (x : Table) (s : State) (call : Call) → size x (after s call) ≡ grown x call (size x s)
after_size x s call =
    let chosen = with_scheduler (effect s call) (choose_next (is_tick call) (effect s call).scheduler) in
    after_unchosen (size x) s call (size_same x (effect s call) chosen (sizes_next (is_tick call) (effect s call).scheduler) refl) ∙ effect_size x s call

-- the table that a call creates in
abbrev table_of : ℕ → Table
table_of n = cond (eqb n 2) threads (cond (eqb n 3) mutexes (cond (eqb n 4) conditions timers))

table_of_lem : (x : Table) → table_of (creator x) ≡ x
table_of_lem threads = refl
table_of_lem mutexes = refl
table_of_lem conditions = refl
table_of_lem timers = refl

-- one call creates in one table
same_table : (x y : Table) → eqb (creator y) (creator x) ≡ true → y ≡ x
same_table x y e = sym (table_of_lem y) ∙ ap table_of (eqb-true (creator y) (creator x) e) ∙ table_of_lem x

-- a call that is not 2 to 5 creates in none
no_table : {X : Type 0} (x : Table) (n : ℕ) → (n < 2) ⊎ (5 < n) → eqb n (creator x) ≡ true → X
no_table x n (inl l) e = absurd (omega (arith, creator_from x, eqb-true n (creator x) e))
no_table x n (inr l) e = absurd (omega (arith, creator_to x, eqb-true n (creator x) e))

-- a call that creates gives the number of those that were there
created_id : (x : Table) (s : State) (call : Call) → eqb (call_number call) (creator x) ≡ true → given s call ≡ size x s
unfolding given call_number
created_id x s Start e = no_table x 1 (inl (omega arith)) e
created_id x s (CreateThread base) e = ap (λ y. size y s) (same_table x threads e)
created_id x s (CreateMutex ceiling) e = ap (λ y. size y s) (same_table x mutexes e)
created_id x s CreateCondition e = ap (λ y. size y s) (same_table x conditions e)
created_id x s CreateTimer e = ap (λ y. size y s) (same_table x timers e)
created_id x s (Acquire m) e = no_table x 6 (inr (omega arith)) e
created_id x s (Release m) e = no_table x 7 (inr (omega arith)) e
created_id x s (Wait c m) e = no_table x 8 (inr (omega arith)) e
created_id x s (Signal c) e = no_table x 9 (inr (omega arith)) e
created_id x s (Broadcast c) e = no_table x 10 (inr (omega arith)) e
created_id x s (StartTimer i c kind v) e = no_table x 11 (inr (omega arith)) e
created_id x s (StopTimer i) e = no_table x 12 (inr (omega arith)) e
created_id x s Tick e = no_table x 13 (inr (omega arith)) e

-- what a row does to a table: nothing, or it gives the next id and the table is one longer
record Grows (x : Table) (s : State) (row : Option Call) (r : Stepped) : Type 0 where
  pub larger : size x r.state ≡ cond (accepts (creator x) row r.answer) (suc (size x s)) (size x s)
  pub id : accepts (creator x) row r.answer ≡ true → r.answer.given ≡ size x s

call_grows : (x : Table) (s : State) → sound s ≡ true → (call : Call) → Grows x s (Some call) (step s call)
call_grows x s e call = by_answer s e call
    (λ p c. subst (λ (r : Stepped). Grows x s (Some call) r) (sym p) (record {
      larger = after_size x s call ∙ (unfold grown in ap (λ y. cond y (suc (size x s)) (size x s)) (sym (and-true (eqb (call_number call) (creator x)))));
      id = λ y. created_id x s call (sym (and-true (eqb (call_number call) (creator x))) ∙ y);
    }))
    (λ p y. let none = ap (λ z. eqb (call_number call) (creator x) && z) y ∙ and_false (eqb (call_number call) (creator x)) in
    subst (λ (r : Stepped). Grows x s (Some call) r) (sym p) (record {
      larger = sym (ap (λ z. cond z (suc (size x s)) (size x s)) none);
      id = λ z. no_way _ z none;
    }))

row_grows : (x : Table) (s : State) → sound s ≡ true → (row : Option Call) → Grows x s row (step_decoded s row)
unfolding step_decoded
row_grows x s e None = record { larger = refl; id = λ z. absurd (false≢true z) }
row_grows x s e (Some call) = call_grows x s e call

-- ---- any number of rows

-- the ids given for a table are the numbers from its size on, one after the other, and as many as it has grown by
pub ids_in_order : (x : Table) (rows : List (Option Call)) (s : State) → sound s ≡ true
    → (ids_given x rows (answers_of s rows) ≡ up_from (size x s) (length (ids_given x rows (answers_of s rows)))) × (size x (final_of s rows) ≡ size x s + length (ids_given x rows (answers_of s rows)))
unfolding ids_given answers_of final_of up_from
ids_in_order x [] s e = (refl, omega arith)
ids_in_order x (row ∷ rows) s e = go (accepts (creator x) row (step_decoded s row).answer) refl (ids_in_order x rows (step_decoded s row).state (decoded_keeps s row e))
  where
    next : State
    next = (step_decoded s row).state

    one : Grows x s row (step_decoded s row)
    one = row_grows x s e row

    others : List ℕ
    others = ids_given x rows (answers_of (step_decoded s row).state rows)

    Ordered : ℕ → List ℕ → Type 0
    Ordered n l = (l ≡ up_from n (length l)) × (size x (final_of (step_decoded s row).state rows) ≡ n + length l)

    go : (y : Bool) → accepts (creator x) row (step_decoded s row).answer ≡ y → Ordered (size x next) others
        → Ordered (size x s) (cond y ((step_decoded s row).answer.given ∷ others) others)
    go true q r =
        let more : size x next ≡ suc (size x s) = one.larger ∙ ap (λ y. cond y (suc (size x s)) (size x s)) q in
        (ap₂ (λ a l. a ∷ l) (one.id q) (r.0 ∙ ap (λ n. up_from n (length others)) more), r.1 ∙ ap (λ n. n + length others) more ∙ omega arith)
    go false q r = subst (λ n. Ordered n others) (one.larger ∙ ap (λ y. cond y (suc (size x s)) (size x s)) q) r
