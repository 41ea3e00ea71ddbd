-- What a stop gives: a stop of a running timer is done and gives what was left to it, 1 to 65,535 ticks. Of a timer set for n ticks that is n less the
-- accepted ticks since its start, and of a periodic one that has expired its repeat less those since it last did.
-- Assumes nothing.
use Rattle.std.specs.Prelude.{Option}
use Prim.Native.Nat.{ℕ, ◌-◌, ◌+◌, ◌*◌, ◌<◌, ◌≤◌}
use mathlib.Core.Path.{◌≡◌, refl, sym, ap, ◌∙◌, subst}
use mathlib.Core.Bool.{true}
use mathlib.Core.List.{List}
use native.Mathlib.Omega.{arith}
use lib.ListN.{length, get_or-eq_default}
use borrow.Author.Tests.{eqb-false, lt-leb, not-false}
use Rattle.laws.proofs.Bools.{by_cases, no_way}
use Rattle.laws.proofs.Lists.{by_below}
use Rattle.units.specs.Units.{ticks_in, repeat_of}
use Rattle.units.specs.declared.Micros.{Micros}
use Rattle.calls.specs.declared.Call.TheVariants.{StartTimer, StopTimer}
use Rattle.calls.specs.declared.Call.{Call}
use Rattle.calls.specs.declared.Kind.{Kind}
use Rattle.calls.specs.declared.Kind.TheVariants.{Periodic}
use Rattle.calls.specs.declared.Verdict.TheVariants.{Done}
use Rattle.calls.specs.Answers.{number_of}
use Rattle.rules.specs.State.{Timer, State, stopped_timer, timer}
use Rattle.rules.specs.Effects.{goes, given}
use Rattle.rules.specs.Refusals.{tests, verdict_of}
use Rattle.rules.specs.Sound.{sound}
use Rattle.rules.specs.Step.{Stepped, step}
use Rattle.rules_soundness.proofs.Tested.{sound_facts}
use Rattle.rules_soundness.proofs.Kept.{soundness_is_kept}
use Rattle.rules_soundness.proofs.Timers.{Goes, timer_at_lem, going_timer, none_goes_at}
use Rattle.book.specs.Answers.{answers_of, final_of}
use Rattle.book.specs.History.{ticks_taken, NeverStops, repeating, phase, GivesTicks}
use Rattle.book.proofs.Accepted.{by_answer}
use Rattle.book.proofs.Demand.{rows_keep}
use Rattle.book.proofs.Expiry.{fewer, new_timer, goes_kind, timer_runs_on, timer_runs_again, timer_since_start, timer_since_due}

-- ---- one stop

-- of a running timer of a sound state
module _ (s : State) (e : sound s ≡ true) (i : ℕ) (runs : goes (timer s.timers i).state ≡ true) where
  -- it exists, since outside the table none runs
  exists : i < length s.timers
  exists = by_below i (length s.timers) (λ l. l)
      (λ l. no_way (goes (timer s.timers i).state) runs (ap (λ (x : Timer). goes x.state) (get_or-eq_default s.timers stopped_timer {n = i} l)))

  -- what it has
  goes_on : Goes (length s.scheduler.rows.ties) (timer s.timers i)
  goes_on = going_timer s.scheduler.rows (timer s.timers i) runs (timer_at_lem s.scheduler.rows s.timers (sound_facts s e).timers i)

  -- the scheduler is started, since before that no timer runs
  on : s.scheduler.rows.started ≡ true
  on = by_cases s.scheduler.rows.started (λ y. y)
      (λ off. no_way (goes (timer s.timers i).state) runs (none_goes_at s.timers ((sound_facts s e).rests off).timers i))

  -- so nothing refuses the stop
  nothing_refuses : verdict_of s (StopTimer i) ≡ Done
  unfolding verdict_of tests
  nothing_refuses = rw (on, lt-leb (length s.timers) i exists, runs)

  -- it is done, and gives what is left
  pub running_stop_gives : GivesTicks (step s (StopTimer i)).answer (timer s.timers i).left
  running_stop_gives = by_answer s e (StopTimer i)
      (λ p k. record { done = ap (λ (x : Stepped). x.answer.number) p; given = ap (λ (x : Stepped). x.answer.given) p ∙ (unfold given in refl) })
      (λ p n. absurd (eqb-false (number_of (verdict_of s (StopTimer i))) 0 n (ap number_of nothing_refuses)))

-- a stop that is done is of a running timer
done_runs : (s : State) → sound s ≡ true → (i : ℕ) → (step s (StopTimer i)).answer.number ≡ 0 → goes (timer s.timers i).state ≡ true
done_runs s e i z = by_answer s e (StopTimer i)
    (λ p k. unfold tests in (not-false (goes (timer s.timers i).state) k.1.1.0))
    (λ p n. absurd (eqb-false (number_of (verdict_of s (StopTimer i))) 0 n (sym (ap (λ (x : Stepped). x.answer.number) p) ∙ z)))

-- and gives 1 to 65,535 ticks
pub stop_gives_1_to_65535 : (s : State) → sound s ≡ true → (i : ℕ) → (step s (StopTimer i)).answer.number ≡ 0
    → (1 ≤ (step s (StopTimer i)).answer.given) × ((step s (StopTimer i)).answer.given ≤ 65535)
stop_gives_1_to_65535 s e i z =
    let runs = done_runs s e i z in
    let running = goes_on s e i runs in
    let gives = (running_stop_gives s e i runs).given in
    (omega (arith, gives, running.some), omega (arith, gives, running.short))

-- a timer that is known
known_stop_gives : (s : State) → sound s ≡ true → (i : ℕ) (x : Timer) → timer s.timers i ≡ x → goes x.state ≡ true → GivesTicks (step s (StopTimer i)).answer x.left
known_stop_gives s e i x is runs =
    subst (λ (y : Timer). GivesTicks (step s (StopTimer i)).answer y.left) is
    (running_stop_gives s e i (ap (λ (y : Timer). goes y.state) is ∙ runs))

-- ---- a stop after any number of rows

-- of a timer that runs in a sound state, such as a loaded one: what was left to it then, less the accepted ticks since, until it is due
pub stop_gives_what_is_left : (s : State) → sound s ≡ true → (i : ℕ) → goes (timer s.timers i).state ≡ true → (rows : List (Option Call)) → NeverStops i rows
    → ticks_taken rows (answers_of s rows) < (timer s.timers i).left
    → GivesTicks (step (final_of s rows) (StopTimer i)).answer ((timer s.timers i).left - ticks_taken rows (answers_of s rows))
stop_gives_what_is_left s e i runs rows never few =
    known_stop_gives (final_of s rows) (rows_keep s e rows) i (fewer (ticks_taken rows (answers_of s rows)) (timer s.timers i))
    (timer_runs_on rows s e i (exists s e i runs) runs never few) runs

-- of a periodic one that keeps n: once the ticks that are left to it there have passed, n less the accepted ticks since it last expired
pub periodic_stop_gives : (s : State) → sound s ≡ true → (i n c left : ℕ) → timer s.timers i ≡ repeating n c left → (rows : List (Option Call)) → NeverStops i rows
    → (turns k : ℕ) → k < n → ticks_taken rows (answers_of s rows) ≡ left + (turns * n + k) → GivesTicks (step (final_of s rows) (StopTimer i)).answer (n - k)
periodic_stop_gives s e i n c left is rows never turns k less total =
    let runs = ap (λ (x : Timer). goes x.state) is in
    let some = subst (λ (x : Timer). 1 ≤ x.left) is (goes_on s e i runs).some in
    known_stop_gives (final_of s rows) (rows_keep s e rows) i (phase n c k) (timer_runs_again rows s e i n c left (exists s e i runs) is some never turns k less total) refl

module _ (s : State) (e : sound s ≡ true) (i c : ℕ) (v : Micros) where
  -- of a timer set for n ticks: n less the accepted ticks since its start, until it is due
  pub stop_gives_length_less_ticks : (kind : Kind) → (step s (StartTimer i c kind v)).answer.number ≡ 0 → (rows : List (Option Call)) → NeverStops i rows
      → ticks_taken rows (answers_of (step s (StartTimer i c kind v)).state rows) < ticks_in v.0
      → GivesTicks (step (final_of (step s (StartTimer i c kind v)).state rows) (StopTimer i)).answer (ticks_in v.0 - ticks_taken rows (answers_of (step s (StartTimer i c kind v)).state rows))
  stop_gives_length_less_ticks kind z rows never few =
      let t = (step s (StartTimer i c kind v)).state in
      known_stop_gives (final_of t rows) (rows_keep t (soundness_is_kept s (StartTimer i c kind v) e) rows) i (fewer (ticks_taken rows (answers_of t rows)) (new_timer c kind v))
      (timer_since_start s e i c v kind z rows never few) (goes_kind kind)

  -- of a periodic one: its repeat less the accepted ticks since it last expired
  pub stop_gives_since_last_expiry : (step s (StartTimer i c Periodic v)).answer.number ≡ 0 → (rows : List (Option Call)) → NeverStops i rows
      → (turns k : ℕ) → k < repeat_of (ticks_in v.0) → ticks_taken rows (answers_of (step s (StartTimer i c Periodic v)).state rows) ≡ ticks_in v.0 + (turns * repeat_of (ticks_in v.0) + k)
      → GivesTicks (step (final_of (step s (StartTimer i c Periodic v)).state rows) (StopTimer i)).answer (repeat_of (ticks_in v.0) - k)
  stop_gives_since_last_expiry z rows never turns k less total =
      let t = (step s (StartTimer i c Periodic v)).state in
      known_stop_gives (final_of t rows) (rows_keep t (soundness_is_kept s (StartTimer i c Periodic v) e) rows) i (phase (repeat_of (ticks_in v.0)) c k)
      (timer_since_due s e i c v z rows never turns k less total) refl
