-- The verdict of a delay, as the tests of document 01 have it; and the first of two verdicts, where the second refuses.
-- Assumes nothing.
use Rattle.std.specs.Prelude.{Some, None}
use Prim.Native.Nat.{ℕ}
use mathlib.Core.Path.{◌≡◌, refl}
use mathlib.Core.Bool.{Bool, true, false, cond, not}
use mathlib.Core.List.{[], ◌∷◌}
use lib.Dec.{eqb}
use borrow.Author.Tests.{eqb-false}
use Rattle.laws.proofs.Bools.{by_cases}
use Rattle.units.specs.declared.Micros.{Micros}
use Rattle.units.specs.Units.{too_long, ticks_in, in_ticks, length_of}
use Rattle.calls.specs.declared.Verdict.{Verdict}
use Rattle.calls.specs.declared.Verdict.TheVariants.{OutOfRange, TimerRunning}
use Rattle.calls.specs.Answers.{number_of}
use Rattle.rules.specs.Refusals.{◌⇒◌, verdict}
use Rattle.refusals.specs.Verdicts.{start_timer_verdict, delay_verdict, first_verdict}

-- the length out of range, and then the state
pub delay_tests : (v : Micros) (state : ℕ) → delay_verdict (length_of v) state ≡ verdict ((too_long (ticks_in v.0) ⇒ OutOfRange) ∷ (not (eqb state 0) ⇒ TimerRunning) ∷ [])
unfolding delay_verdict start_timer_verdict
delay_tests v state = go (too_long (ticks_in v.0))
  where
    go : (b : Bool) → delay_verdict (cond b None (Some (in_ticks (ticks_in v.0)))) state ≡ verdict ((b ⇒ OutOfRange) ∷ (not (eqb state 0) ⇒ TimerRunning) ∷ [])
    go true = refl
    go false = refl

-- where the second refuses, the first of two does
pub first_refuses : (a b : Verdict) → (number_of b ≡ 0 → ⊥) → number_of (first_verdict a b) ≡ 0 → ⊥
unfolding first_verdict
first_refuses a b n = by_cases (eqb (number_of a) 0) (λ e. rw e n) (λ e. rw e (eqb-false (number_of a) 0 e))
