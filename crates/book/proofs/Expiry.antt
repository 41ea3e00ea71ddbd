-- A timer set for n ticks is among those that a tick expires exactly at the nth accepted tick after its start, unless it is stopped first, and a
-- periodic one again each time its repeat has passed since. The answer to a tick counts those that it expires, and each signals its condition variable.
-- Assumes nothing.
use Rattle.std.specs.Prelude.{Option, Some, None}
use Prim.Native.Nat.{ℕ, zero, suc, ◌+◌, ◌-◌, ◌*◌, ◌<◌, ◌≤◌}
use mathlib.Core.Path.{◌≡◌, refl, sym, ap, ap₂, ◌∙◌, subst}
use mathlib.Core.Bool.{Bool, true, false, cond, ◌&&◌}
use mathlib.Core.List.{List, [], ◌∷◌, map}
use native.Mathlib.Omega.{arith}
use lib.ListN.{length, length-set, length-map, length-append, get_or-map, get_or-append}
use lib.Seq.{get_or-set_same, get_or-set_other}
use lib.Dec.{eqb, leb}
use borrow.Author.Tests.{eqb-false, eq-eqb, ne_eqb, leb-false}
use Rattle.laws.proofs.Bools.{by_cases, no_way, nor_left, and-true, and_false}
use Rattle.laws.proofs.Lists.{by_equal}
use Rattle.units.specs.Units.{ticks_in, repeat_of}
use Rattle.units.proofs.Lengths.{never_early}
use Rattle.units.specs.declared.Micros.{Micros}
use Rattle.calls.specs.declared.Call.{Call}
use Rattle.calls.specs.declared.Call.TheVariants.{Start, CreateThread, CreateMutex, CreateCondition, CreateTimer, Acquire, Release, Wait, Signal, Broadcast, StartTimer, StopTimer, Tick}
use Rattle.calls.specs.declared.Kind.{Kind}
use Rattle.calls.specs.declared.Kind.TheVariants.{OneShot, Periodic}
use Rattle.calls.specs.Answers.{number_of}
use Rattle.rules.specs.State.{Timer, State, stopped_timer, timer}
use Rattle.rules.specs.Effects.{goes, state_of, started_timer, is_due, after_due, ticked, due_conditions, signalled_each, effect, given}
use Rattle.rules.specs.Refusals.{tests, verdict_of}
use Rattle.rules.specs.Sound.{mem, sound}
use Rattle.rules.specs.Step.{Stepped, after, step, step_decoded}
use Rattle.rules_soundness.proofs.Keeping.{Clear}
use Rattle.rules_soundness.proofs.Kept.{soundness_is_kept, decoded_keeps}
use Rattle.book.specs.Answers.{answers_of, final_of}
use Rattle.book.specs.History.{call_number, accepts, ticks_taken, NeverStops, due_from, expiring, Expires, TickExpires, repeating, phase}
use Rattle.book.proofs.Accepted.{by_answer, after_unchosen}

-- ---- the timers that a tick expires

-- none has an id below that of the first
due_below : (xs : List Timer) (i j : ℕ) → j < i → mem j (due_from i xs) ≡ false
unfolding due_from mem
due_below [] i j l = refl
due_below (x ∷ xs) i j l = by_cases (is_due x)
    (λ e. rw e (rw (ne_eqb j i (λ z. omega arith)) (due_below xs (suc i) j (omega arith))))
    (λ e. rw e (due_below xs (suc i) j (omega arith)))

-- timer j of a list is among them exactly if it is due
due_exactly : (xs : List Timer) (i j : ℕ) → mem (i + j) (due_from i xs) ≡ is_due (timer xs j)
unfolding due_from mem
due_exactly [] i j = refl
due_exactly (x ∷ xs) i zero = by_cases (is_due x)
    (λ e. rw (e, eq-eqb (i + 0) i (omega arith)))
    (λ e. rw (e, due_below xs (suc i) (i + 0) (omega arith)))
due_exactly (x ∷ xs) i (suc j) =
    let next : i + suc j ≡ suc i + j = omega arith in
    by_cases (is_due x)
    (λ e. rw (e, ne_eqb (i + suc j) i (λ z. omega arith)) (ap (λ k. mem k (due_from (suc i) xs)) next ∙ due_exactly xs (suc i) j))
    (λ e. rw e (ap (λ k. mem k (due_from (suc i) xs)) next ∙ due_exactly xs (suc i) j))

-- their condition variables, in order, are those of document 01's tick
due_conditions_lem : (f : ℕ → ℕ) (xs : List Timer) (i : ℕ) → ((j : ℕ) → f (i + j) ≡ (timer xs j).condition) → map f (due_from i xs) ≡ due_conditions xs
unfolding due_from due_conditions
due_conditions_lem f [] i h = refl
due_conditions_lem f (x ∷ xs) i h =
    let here : f i ≡ x.condition = ap f (omega arith) ∙ h 0 in
    let others = due_conditions_lem f xs (suc i) (λ j. ap f (omega arith) ∙ h (suc j)) in
    by_cases (is_due x) (λ e. rw e (ap₂ (λ c cs. c ∷ cs) here others)) (λ e. rw e others)

-- the answer counts them, and each signals its condition variable, in order of id
pub tick_expires : (s : State) → TickExpires s
unfolding given effect
tick_expires s =
    let same = due_conditions_lem (λ i. (timer s.timers i).condition) s.timers 0 (λ j. ap (λ k. (timer s.timers k).condition) (omega arith)) in
    record {
      counted = ap length (sym same) ∙ length-map (expiring s) (λ i. (timer s.timers i).condition);
      signals = ap (signalled_each s.scheduler) (sym same);
    }

-- whether a timer is among them is whether it is due
expiring_exactly : (s : State) (i : ℕ) → mem i (expiring s) ≡ is_due (timer s.timers i)
expiring_exactly s i = ap (λ k. mem k (expiring s)) (omega arith) ∙ due_exactly s.timers 0 i

-- ---- a running timer through one row

-- the choice of the next thread moves no timer
after_timers : (s : State) (call : Call) → (after s call).timers ≡ (effect s call).timers
after_timers s call = after_unchosen (λ (x : State). x.timers) s call refl

-- whether a call is the tick
abbrev is_tick : Call → Bool
is_tick call = eqb (call_number call) 13

-- a running timer in the effect of a call that does not stop it
module _ (s : State) (i : ℕ) (exists : i < length s.timers) (runs : goes (timer s.timers i).state ≡ true) where
  effect_timer : (call : Call) → (call ≡ StopTimer i → ⊥) → Clear (tests s.scheduler.rows s.timers call)
      → timer (effect s call).timers i ≡ cond (is_tick call) (ticked (timer s.timers i)) (timer s.timers i)
  unfolding effect tests call_number
  effect_timer Start n c = refl
  effect_timer (CreateThread p) n c = refl
  effect_timer (CreateMutex p) n c = refl
  effect_timer CreateCondition n c = refl
  effect_timer CreateTimer n c = get_or-append s.timers (stopped_timer ∷ []) stopped_timer i exists
  effect_timer (Acquire m) n c = refl
  effect_timer (Release m) n c = refl
  effect_timer (Wait d m) n c = refl
  effect_timer (Signal d) n c = refl
  effect_timer (Broadcast d) n c = refl
  effect_timer (StartTimer j d kind v) n c = get_or-set_other s.timers j i (started_timer d kind (ticks_in v.0)) stopped_timer
      (λ e. no_way (goes (timer s.timers i).state) runs (ap (λ k. goes (timer s.timers k).state) e ∙ c.1.1.1.0))
  effect_timer (StopTimer j) n c = get_or-set_other s.timers j i stopped_timer stopped_timer (λ e. n (ap StopTimer (sym e)))
  effect_timer Tick n c = unfold ticked in (get_or-map ticked s.timers i stopped_timer)

-- the table of timers does not get shorter
effect_length : (s : State) (call : Call) → length s.timers ≤ length (effect s call).timers
unfolding effect
effect_length s Start = omega arith
effect_length s (CreateThread p) = omega arith
effect_length s (CreateMutex p) = omega arith
effect_length s CreateCondition = omega arith
effect_length s CreateTimer = omega (arith, length-append s.timers (stopped_timer ∷ []))
effect_length s (Acquire m) = omega arith
effect_length s (Release m) = omega arith
effect_length s (Wait d m) = omega arith
effect_length s (Signal d) = omega arith
effect_length s (Broadcast d) = omega arith
effect_length s (StartTimer j d kind v) = omega (arith, length-set s.timers j (started_timer d kind (ticks_in v.0)))
effect_length s (StopTimer j) = omega (arith, length-set s.timers j stopped_timer)
effect_length s Tick = omega (arith, length-map s.timers ticked)

-- whether a row is an accepted tick
abbrev ticks : State → Option Call → Bool
ticks s row = accepts 13 row (step_decoded s row).answer

module _ (s : State) (e : sound s ≡ true) (i : ℕ) (exists : i < length s.timers) (runs : goes (timer s.timers i).state ≡ true) where
  call_timer : (call : Call) → (call ≡ StopTimer i → ⊥)
      → timer (step s call).state.timers i ≡ cond (is_tick call && eqb (step s call).answer.number 0) (ticked (timer s.timers i)) (timer s.timers i)
  call_timer call n = by_answer s e call
      (λ p c. subst (λ (x : Stepped). timer x.state.timers i ≡ cond (is_tick call && eqb x.answer.number 0) (ticked (timer s.timers i)) (timer s.timers i)) (sym p)
      (ap (λ ts. timer ts i) (after_timers s call) ∙ effect_timer s i exists runs call n c ∙ ap (λ y. cond y (ticked (timer s.timers i)) (timer s.timers i)) (sym (and-true (is_tick call)))))
      (λ p y. subst (λ (x : Stepped). timer x.state.timers i ≡ cond (is_tick call && eqb x.answer.number 0) (ticked (timer s.timers i)) (timer s.timers i)) (sym p)
      (ap (λ z. cond z (ticked (timer s.timers i)) (timer s.timers i)) (sym (ap (λ z. is_tick call && z) y ∙ and_false (is_tick call)))))

  call_exists : (call : Call) → i < length (step s call).state.timers
  call_exists call = by_answer s e call
      (λ p c. subst (λ (x : Stepped). i < length x.state.timers) (sym p) (subst (λ (ts : List Timer). i < length ts) (sym (after_timers s call)) (omega (arith, effect_length s call))))
      (λ p y. subst (λ (x : Stepped). i < length x.state.timers) (sym p) exists)

  -- a row that does not stop it ticks it, or leaves it as it is
  row_timer : (row : Option Call) → (row ≡ Some (StopTimer i) → ⊥) → timer (step_decoded s row).state.timers i ≡ cond (ticks s row) (ticked (timer s.timers i)) (timer s.timers i)
  unfolding step_decoded
  row_timer None n = refl
  row_timer (Some call) n = call_timer call (λ z. n (ap Some z))

  row_exists : (row : Option Call) → i < length (step_decoded s row).state.timers
  unfolding step_decoded
  row_exists None = exists
  row_exists (Some call) = call_exists call

-- ---- a running timer through any number of rows

-- a timer with n ticks fewer left
abbrev pub fewer : ℕ → Timer → Timer
fewer n x = record { state = x.state; condition = x.condition; length = x.length; left = x.left - n }

-- a tick that does not expire it leaves a timer one tick fewer
ticked_fewer : (x : Timer) → 1 < x.left → ticked x ≡ fewer 1 x
unfolding ticked
ticked_fewer x l = ap (λ y. cond y (after_due x.state x) (fewer 1 x)) (ap (λ y. goes x.state && y) (ne_eqb x.left 1 (λ z. omega arith)) ∙ and_false (goes x.state))

-- how many accepted ticks the rows after the first have
abbrev ticks_after : State → Option Call → List (Option Call) → ℕ
ticks_after s row rows = ticks_taken rows (answers_of (step_decoded s row).state rows)

-- a timer with r ticks left has one fewer for each accepted tick, until it is due
pub timer_runs_on : (rows : List (Option Call)) (s : State) → sound s ≡ true → (i : ℕ) → i < length s.timers → goes (timer s.timers i).state ≡ true → NeverStops i rows
    → ticks_taken rows (answers_of s rows) < (timer s.timers i).left → timer (final_of s rows).timers i ≡ fewer (ticks_taken rows (answers_of s rows)) (timer s.timers i)
unfolding final_of answers_of ticks_taken
timer_runs_on [] s e i l r n d = λ j. record { state = x.state; condition = x.condition; length = x.length; left = all j }
  where
    x : Timer
    x = timer s.timers i

    all : (timer s.timers i).left ≡ (timer s.timers i).left - 0
    all = omega arith
timer_runs_on (row ∷ rows) s e i l r n d = go (ticks s row) refl d (timer_runs_on rows (step_decoded s row).state (decoded_keeps s row e) i (row_exists s e i l r row))
  where
    x : Timer
    x = timer s.timers i

    next : Timer
    next = timer (step_decoded s row).state.timers i

    rest : ℕ
    rest = ticks_after s row rows

    go : (y : Bool) → ticks s row ≡ y → cond y 1 0 + rest < x.left
        → (goes next.state ≡ true → NeverStops i rows → rest < next.left → timer (final_of (step_decoded s row).state rows).timers i ≡ fewer rest next)
        → timer (final_of (step_decoded s row).state rows).timers i ≡ fewer (cond y 1 0 + rest) x
    go true q h f =
        let is : next ≡ fewer 1 x = row_timer s e i l r row n.0 ∙ ap (λ y. cond y (ticked x) x) q ∙ ticked_fewer x (omega arith) in
        let less : rest < next.left = subst (λ (t : Timer). rest < t.left) (sym is) (omega arith) in
        let both : x.left - 1 - rest ≡ x.left - (1 + rest) = omega arith in
        f (ap (λ (t : Timer). goes t.state) is ∙ r) n.1 less ∙ ap (fewer rest) is ∙ (λ j. record { state = x.state; condition = x.condition; length = x.length; left = both j })
    go false q h f =
        let is : next ≡ x = row_timer s e i l r row n.0 ∙ ap (λ y. cond y (ticked x) x) q in
        let less : rest < next.left = subst (λ (t : Timer). rest < t.left) (sym is) (omega arith) in
        let none : x.left - rest ≡ x.left - (0 + rest) = omega arith in
        f (ap (λ (t : Timer). goes t.state) is ∙ r) n.1 less ∙ ap (fewer rest) is ∙ (λ j. record { state = x.state; condition = x.condition; length = x.length; left = none j })

-- ---- a periodic timer, again and again

-- the tick that it is due at leaves it all of its n ticks again
repeating_due : (n c : ℕ) → ticked (repeating n c 1) ≡ repeating n c n
unfolding ticked
repeating_due n c = refl

-- after the ticks that are left to it, a number of whole turns and k ticks more, it is k ticks past its last expiry
pub timer_runs_again : (rows : List (Option Call)) (s : State) → sound s ≡ true → (i n c left : ℕ) → i < length s.timers → timer s.timers i ≡ repeating n c left → 1 ≤ left → NeverStops i rows
    → (turns k : ℕ) → k < n → ticks_taken rows (answers_of s rows) ≡ left + (turns * n + k) → timer (final_of s rows).timers i ≡ phase n c k
unfolding final_of answers_of ticks_taken
timer_runs_again [] s e i n c left l is some stops turns k less sum = absurd (omega arith)
timer_runs_again (row ∷ rows) s e i n c left l is some stops turns k less sum = go (ticks s row) refl sum
    (λ again turned at_again more total. timer_runs_again rows next kept i n c again exists at_again more stops.1 turned k less total)
    (λ at_n total. timer_runs_on rows next kept i exists (ap (λ (x : Timer). goes x.state) at_n) stops.1 (subst (λ (x : Timer). rest < x.left) (sym at_n) (omega arith)) ∙ ap₂ fewer total at_n)
  where
    next : State
    next = (step_decoded s row).state

    rest : ℕ
    rest = ticks_after s row rows

    runs : goes (timer s.timers i).state ≡ true
    runs = ap (λ (x : Timer). goes x.state) is

    kept : sound next ≡ true
    kept = decoded_keeps s row e

    exists : i < length next.timers
    exists = row_exists s e i l runs row

    stepped : timer next.timers i ≡ cond (ticks s row) (ticked (timer s.timers i)) (timer s.timers i)
    stepped = row_timer s e i l runs row stops.0

    -- the rows that follow: it is due once more at least, or not any more
    Due : Type 0
    Due = (again turned : ℕ) → timer next.timers i ≡ repeating n c again → 1 ≤ again → rest ≡ again + (turned * n + k) → timer (final_of next rows).timers i ≡ phase n c k

    Last : Type 0
    Last = timer next.timers i ≡ repeating n c n → rest ≡ k → timer (final_of next rows).timers i ≡ phase n c k

    -- at the tick that it is due at
    turn_over : (turned : ℕ) → rest ≡ turned * n + k → timer next.timers i ≡ repeating n c n → Due → Last → timer (final_of next rows).timers i ≡ phase n c k
    turn_over zero total at_n due last = last at_n (omega arith)
    turn_over (suc turned) total at_n due last = due n turned at_n (omega arith) (omega arith)

    go : (y : Bool) → ticks s row ≡ y → cond y 1 0 + rest ≡ left + (turns * n + k) → Due → Last → timer (final_of next rows).timers i ≡ phase n c k
    go true q total due last =
        let ticks-on : timer next.timers i ≡ ticked (repeating n c left) = stepped ∙ ap (λ y. cond y (ticked (timer s.timers i)) (timer s.timers i)) q ∙ ap ticked is in
        by_equal left 1
        (λ z. turn_over turns (omega arith) (ticks-on ∙ ap (λ m. ticked (repeating n c m)) z ∙ repeating_due n c) due last)
        (λ z. due (left - 1) turns (ticks-on ∙ ticked_fewer (repeating n c left) (omega arith)) (omega arith) (omega arith))
    go false q total due last = due left turns (stepped ∙ ap (λ y. cond y (ticked (timer s.timers i)) (timer s.timers i)) q ∙ is) some (omega arith)

-- ---- from its start

-- a timer as it is set
abbrev pub new_timer : ℕ → Kind → Micros → Timer
new_timer c kind v = started_timer c kind (ticks_in v.0)

-- a timer that was started has all its ticks left
pub timer_set : (s : State) → sound s ≡ true → (i c : ℕ) (kind : Kind) (v : Micros) → (step s (StartTimer i c kind v)).answer.number ≡ 0
    → (i < length (step s (StartTimer i c kind v)).state.timers) × (timer (step s (StartTimer i c kind v)).state.timers i ≡ new_timer c kind v)
timer_set s e i c kind v z = by_answer s e (StartTimer i c kind v)
    (λ p k. subst (λ (x : Stepped). (i < length x.state.timers) × (timer x.state.timers i ≡ new_timer c kind v)) (sym p)
    (subst (λ (ts : List Timer). (i < length ts) × (timer ts i ≡ new_timer c kind v)) (sym (after_timers s (StartTimer i c kind v)))
    (stored (exists k))))
    (λ p y. absurd (eqb-false (number_of (verdict_of s (StartTimer i c kind v))) 0 y (sym (ap (λ (x : Stepped). x.answer.number) p) ∙ z)))
  where
    exists : Clear (tests s.scheduler.rows s.timers (StartTimer i c kind v)) → i < length s.timers
    exists k = unfold tests in (leb-false (length s.timers) i (nor_left (leb (length s.timers) i) (leb (length s.scheduler.rows.ties) c) k.1.0))

    stored : i < length s.timers → (i < length (effect s (StartTimer i c kind v)).timers) × (timer (effect s (StartTimer i c kind v)).timers i ≡ new_timer c kind v)
    stored l = unfold effect in (rw (length-set s.timers i (new_timer c kind v)) l, get_or-set_same s.timers i (new_timer c kind v) stopped_timer l)

pub goes_kind : (kind : Kind) → goes (state_of kind) ≡ true
goes_kind OneShot = refl
goes_kind Periodic = refl

-- a running timer that is known is among the expiring ones exactly if it has one tick left
known_expires : (s : State) (i : ℕ) (x : Timer) (due : Bool) → timer s.timers i ≡ x → goes x.state ≡ true → eqb x.left 1 ≡ due → Expires s i x.condition due
known_expires s i x due is runs last = record {
  among = expiring_exactly s i ∙ ap is_due is ∙ ap (λ y. y && eqb x.left 1) runs ∙ last;
  condition = ap (λ (y : Timer). y.condition) is;
}

-- one tick is left of n after k exactly if the next is the nth
one_left : (n k : ℕ) → k < n → eqb (n - k) 1 ≡ eqb (k + 1) n
one_left n k l = by_equal (k + 1) n
    (λ q. eq-eqb (n - k) 1 (omega arith) ∙ sym (eq-eqb (k + 1) n q))
    (λ q. ne_eqb (n - k) 1 (λ g. q (omega arith)) ∙ sym (ne_eqb (k + 1) n q))

module _ (s : State) (e : sound s ≡ true) (i c : ℕ) (v : Micros) where
  -- after its start, unless it is stopped first, a timer set for n ticks has one fewer left for each accepted tick, until it is due
  pub timer_since_start : (kind : Kind) → (step s (StartTimer i c kind v)).answer.number ≡ 0 → (rows : List (Option Call)) → NeverStops i rows
      → ticks_taken rows (answers_of (step s (StartTimer i c kind v)).state rows) < ticks_in v.0
      → timer (final_of (step s (StartTimer i c kind v)).state rows).timers i ≡ fewer (ticks_taken rows (answers_of (step s (StartTimer i c kind v)).state rows)) (new_timer c kind v)
  timer_since_start kind z rows n d =
      let t = (step s (StartTimer i c kind v)).state in
      let past = ticks_taken rows (answers_of t rows) in
      let set = timer_set s e i c kind v z in
      timer_runs_on rows t (soundness_is_kept s (StartTimer i c kind v) e) i set.0 (ap (λ (x : Timer). goes x.state) set.1 ∙ goes_kind kind) n
      (subst (λ (x : Timer). past < x.left) (sym set.1) d) ∙ ap (fewer past) set.1

  -- and a periodic one k accepted ticks after it last expired has its repeat less k left
  pub timer_since_due : (step s (StartTimer i c Periodic v)).answer.number ≡ 0 → (rows : List (Option Call)) → NeverStops i rows
      → (turns k : ℕ) → k < repeat_of (ticks_in v.0) → ticks_taken rows (answers_of (step s (StartTimer i c Periodic v)).state rows) ≡ ticks_in v.0 + (turns * repeat_of (ticks_in v.0) + k)
      → timer (final_of (step s (StartTimer i c Periodic v)).state rows).timers i ≡ phase (repeat_of (ticks_in v.0)) c k
  timer_since_due z rows n turns k less total =
      let t = (step s (StartTimer i c Periodic v)).state in
      let set = timer_set s e i c Periodic v z in
      timer_runs_again rows t (soundness_is_kept s (StartTimer i c Periodic v) e) i (repeat_of (ticks_in v.0)) c (ticks_in v.0) set.0 set.1 (omega arith) n turns k less total

  -- a timer set for n ticks is among those that a tick expires at the nth accepted tick after its start, and at none before, unless it is stopped first
  pub expires_at_its_tick : (kind : Kind) → (step s (StartTimer i c kind v)).answer.number ≡ 0 → (rows : List (Option Call)) → NeverStops i rows
      → ticks_taken rows (answers_of (step s (StartTimer i c kind v)).state rows) < ticks_in v.0
      → Expires (final_of (step s (StartTimer i c kind v)).state rows) i c (eqb (ticks_taken rows (answers_of (step s (StartTimer i c kind v)).state rows) + 1) (ticks_in v.0))
  expires_at_its_tick kind z rows n d =
      let t = (step s (StartTimer i c kind v)).state in
      let past = ticks_taken rows (answers_of t rows) in
      known_expires (final_of t rows) i (fewer past (new_timer c kind v)) _ (timer_since_start kind z rows n d) (goes_kind kind) (one_left (ticks_in v.0) past d)

  -- so it does not expire early: a tick that comes while the whole ticks since its start last less than v microseconds does not expire it
  pub never_expires_early : (kind : Kind) → (step s (StartTimer i c kind v)).answer.number ≡ 0 → (rows : List (Option Call)) → NeverStops i rows
      → ticks_taken rows (answers_of (step s (StartTimer i c kind v)).state rows) * 1000 < v.0
      → Expires (final_of (step s (StartTimer i c kind v)).state rows) i c false
  never_expires_early kind z rows n early =
      let past = ticks_taken rows (answers_of (step s (StartTimer i c kind v)).state rows) in
      let few : past + 1 < ticks_in v.0 = omega (arith, early, never_early v.0) in
      subst (λ y. Expires (final_of (step s (StartTimer i c kind v)).state rows) i c y) (ne_eqb (past + 1) (ticks_in v.0) (λ q. omega (arith, few, q)))
      (expires_at_its_tick kind z rows n (omega (arith, few)))

  -- and a periodic one again its repeat later, each time, and at none between
  pub expires_again : (step s (StartTimer i c Periodic v)).answer.number ≡ 0 → (rows : List (Option Call)) → NeverStops i rows
      → (turns k : ℕ) → k < repeat_of (ticks_in v.0) → ticks_taken rows (answers_of (step s (StartTimer i c Periodic v)).state rows) ≡ ticks_in v.0 + (turns * repeat_of (ticks_in v.0) + k)
      → Expires (final_of (step s (StartTimer i c Periodic v)).state rows) i c (eqb (k + 1) (repeat_of (ticks_in v.0)))
  expires_again z rows n turns k less total =
      let again = repeat_of (ticks_in v.0) in
      known_expires (final_of (step s (StartTimer i c Periodic v)).state rows) i (phase again c k) _ (timer_since_due z rows n turns k less total) refl (one_left again k less)
