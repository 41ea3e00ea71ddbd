-- A step of a sound state by its answer: accepted, with every test passed, or refused; and what the choice of the next thread leaves as it was.
-- Assumes nothing.
use mathlib.Core.Path.{◌≡◌, ap, ◌∙◌}
use mathlib.Core.Bool.{true, false}
use lib.Dec.{eqb}
use borrow.Author.Tests.{eqb-true}
use Rattle.laws.proofs.Bools.{by_cases, cond_true, cond_false}
use Rattle.calls.specs.declared.Call.{Call}
use Rattle.calls.specs.Answers.{number_of}
use Rattle.rules.specs.State.{State}
use Rattle.rules.specs.Next.{choose_next}
use Rattle.rules.specs.Effects.{with_scheduler, effect}
use Rattle.rules.specs.Refusals.{tests, verdict_of}
use Rattle.rules.specs.Sound.{sound}
use Rattle.rules.specs.Step.{is_tick, after, runner, accepted, refused, step_sound, step}
use Rattle.rules_soundness.proofs.Keeping.{Clear, passed}
use Rattle.rules_soundness.proofs.Kept.{sound_steps}

-- accepted, with all tests passed, or refused
pub by_answer : {X : Type 0} (s : State) → sound s ≡ true → (call : Call) → (step s call ≡ accepted s call → Clear (tests s.scheduler.rows s.timers call) → X)
    → (step s call ≡ refused s (runner s) (verdict_of s call) → eqb (number_of (verdict_of s call)) 0 ≡ false → X) → X
by_answer s e call yes-case no-case = by_cases (eqb (number_of (verdict_of s call)) 0)
    (λ y. yes-case (sound_steps s call e ∙ (taken y)) (passed s call (eqb-true (number_of (verdict_of s call)) 0 y)))
    (λ y. no-case (sound_steps s call e ∙ (left y)) y)
  where
    taken : eqb (number_of (verdict_of s call)) 0 ≡ true → step_sound s call ≡ accepted s call
    taken y = unfold step_sound in (cond_true (eqb (number_of (verdict_of s call)) 0) (accepted s call) (refused s (runner s) (verdict_of s call)) y)

    left : eqb (number_of (verdict_of s call)) 0 ≡ false → step_sound s call ≡ refused s (runner s) (verdict_of s call)
    left y = unfold step_sound in (cond_false (eqb (number_of (verdict_of s call)) 0) (accepted s call) (refused s (runner s) (verdict_of s call)) y)

-- whatever the choice of the next thread leaves as it was is after an accepted call what the call's effect made of it
pub after_unchosen : {X : Type 0} (f : State → X) (s : State) (call : Call)
    → f (with_scheduler (effect s call) (choose_next (is_tick call) (effect s call).scheduler)) ≡ f (effect s call) → f (after s call) ≡ f (effect s call)
unfolding after
after_unchosen f s call kept = by_cases (effect s call).scheduler.rows.started
    (λ e. ap f (cond_true (effect s call).scheduler.rows.started (with_scheduler (effect s call) (choose_next (is_tick call) (effect s call).scheduler)) (effect s call) e) ∙ kept)
    (λ e. ap f (cond_false (effect s call).scheduler.rows.started (with_scheduler (effect s call) (choose_next (is_tick call) (effect s call).scheduler)) (effect s call) e))
