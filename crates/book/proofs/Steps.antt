-- One row: from the same state and book the answers are equal, and the state and the book that follow are the same.
-- Assumes nothing.
use Rattle.std.specs.Prelude.{Option, Some, None}
use Prim.Native.Nat.{◌%◌}
use mathlib.Core.Path.{◌≡◌, refl, sym, ap, ap₂, ◌∙◌, subst}
use mathlib.Core.Bool.{Bool, true, false, cond}
use mathlib.Core.List.{map}
use lib.Dec.{eqb}
use borrow.Author.Tests.{eqb-true}
use Rattle.laws.proofs.Bools.{by_cases, cond_true, cond_false}
use Rattle.calls.specs.declared.Call.{Call}
use Rattle.calls.specs.declared.Call.TheVariants.{Start, CreateThread, CreateMutex, CreateCondition, CreateTimer, Acquire, Release, Wait, Signal, Broadcast, StartTimer, StopTimer, Tick}
use Rattle.calls.specs.declared.Verdict.TheVariants.{Done}
use Rattle.calls.specs.Answers.{number_of, nothing}
use Rattle.rules.specs.State.{State}
use Rattle.rules.specs.Next.{choose_next}
use Rattle.rules.specs.Effects.{with_scheduler}
use Rattle.rules.specs.Refusals.{verdict_of}
use Rattle.rules.specs.Sound.{sound}
use Rattle.rules.specs.Step.{Stepped, after, runner, accepted, refused, step_sound, step_decoded}
use Rattle.rules.specs.Step as T
use Rattle.rules_soundness.proofs.Facts.{Sound}
use Rattle.rules_soundness.proofs.Tested.{sound_facts}
use Rattle.rules_soundness.proofs.Keeping.{passed, sound_stays}
use Rattle.rules_soundness.proofs.Kept.{sound_steps}
use Rattle.book.specs.Book.{Book}
use Rattle.book.specs.Turns.{Turn, verdict, outcome, run_next, is_tick, answered, turn, turn_of}
use Rattle.book.proofs.Timers.{left_at, timeless_next}
use Rattle.book.proofs.Next.{alike_chosen}
use Rattle.book.proofs.Same.{Same, same_verdict, same_started, same_running}
use Rattle.book.proofs.Effects.{BeforeNext, call_before_next, call_given}

-- an equal answer, and the same afterwards
pub record Agree (x : Stepped) (y : Turn) : Type 0 where
  pub answer : x.answer ≡ y.answer
  pub same : Same x.state y.book

-- ---- the rule of three

-- only the tick is a tick
tick_alike : (call : Call) → T.is_tick call ≡ is_tick call
unfolding is_tick
tick_alike Start = refl
tick_alike (CreateThread p) = refl
tick_alike (CreateMutex p) = refl
tick_alike CreateCondition = refl
tick_alike CreateTimer = refl
tick_alike (Acquire m) = refl
tick_alike (Release m) = refl
tick_alike (Wait c m) = refl
tick_alike (Signal c) = refl
tick_alike (Broadcast c) = refl
tick_alike (StartTimer i c kind v) = refl
tick_alike (StopTimer i) = refl
tick_alike Tick = refl

next_same : (at_tick : Bool) {e : State} {l : Book} → BeforeNext e l → Same (cond e.scheduler.rows.started (with_scheduler e (choose_next at_tick e.scheduler)) e) (run_next at_tick l)
next_same at_tick {e} {l} x = by_cases e.scheduler.rows.started
    (λ on. subst (λ i. Same i (run_next at_tick l)) (sym (cond_true e.scheduler.rows.started (with_scheduler e (choose_next at_tick e.scheduler)) e on)) (record {
      alike = alike_chosen at_tick x.same.alike (x.turning on).0 (x.turning on).1 on;
      count = x.same.count ∙ ap (λ n. n % 4294967296) (sym (timeless_next at_tick l).count);
      timers = x.same.timers ∙ ap₂ (λ n xs. map (left_at n) xs) (sym (timeless_next at_tick l).count) (sym (timeless_next at_tick l).timers);
    }))
    (λ off. subst (λ i. Same i (run_next at_tick l)) (sym (cond_false e.scheduler.rows.started (with_scheduler e (choose_next at_tick e.scheduler)) e off))
    (subst (Same e) (sym (stays off)) x.same))
  where
    stays : e.scheduler.rows.started ≡ false → run_next at_tick l ≡ l
    stays off = unfold run_next in (cond_false l.started _ l (sym (same_started x.same) ∙ off))

-- ---- one call

module _ {s : State} {b : Book} (o : Sound s) (x : Same s b) (call : Call) where
  -- the book's turn where the call is accepted, and where it is not
  abbrev done : Turn
  done = answered Done (outcome b call).given (run_next (is_tick call) (outcome b call).book)

  module _ (e : eqb (number_of (verdict_of s call)) 0 ≡ true) where
    after_same : Same (after s call) (run_next (is_tick call) (outcome b call).book)
    unfolding after
    after_same = subst (λ y. Same (after s call) (run_next y (outcome b call).book)) (tick_alike call) (next_same (T.is_tick call) (call_before_next o x call (passed s call (eqb-true (number_of (verdict_of s call)) 0 e))))

    after_sound : Sound (after s call)
    after_sound = subst Sound is_after (sound_stays o call)
      where
        is_after : (step_sound s call).state ≡ after s call
        is_after = unfold step_sound in (ap (λ (y : Stepped). y.state) (cond_true (eqb (number_of (verdict_of s call)) 0) (accepted s call) (refused s (runner s) (verdict_of s call)) e))

    accepted_agree : Agree (accepted s call) done
    accepted_agree = record {
      answer = λ i. record { number = 0; given = call_given o x call (passed s call (eqb-true (number_of (verdict_of s call)) 0 e)) i; running = same_running after_same after_sound i };
      same = after_same;
    }

  refused_agree : Agree (refused s (runner s) (verdict_of s call)) (answered (verdict b call) nothing b)
  refused_agree = record {
    answer = λ i. record { number = number_of (same_verdict x call i); given = 255; running = same_running x o i };
    same = x;
  }

  pub call_agree : Agree (step_sound s call) (turn b call)
  unfolding step_sound turn
  call_agree = by_cases (eqb (number_of (verdict_of s call)) 0)
      (λ e. rw (e, sym (ap (λ v. eqb (number_of v) 0) (same_verdict x call)) ∙ e) (accepted_agree e))
      (λ e. rw (e, sym (ap (λ v. eqb (number_of v) 0) (same_verdict x call)) ∙ e) refused_agree)

-- ---- one row

pub row_agree : (s : State) (b : Book) → sound s ≡ true → Same s b → (row : Option Call) → Agree (step_decoded s row) (turn_of b row)
unfolding step_decoded turn_of
row_agree s b e x None = record {
  answer = λ i. record { number = 17; given = 255; running = (cond_true (sound s) (runner s) 255 e ∙ same_running x (sound_facts s e)) i };
  same = x;
}
row_agree s b e x (Some call) = rw (sound_steps s call e) (call_agree (sound_facts s e) x call)
