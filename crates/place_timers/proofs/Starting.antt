-- A timer started by the length of its delay: out of range it is refused behind the ids, and in range by its state.
-- Assumes nothing.
use Rattle.std.specs.Prelude.{Option, Some, None}
use Prim.Native.Nat.{ℕ}
use mathlib.Core.Path.{◌≡◌, refl, sym, ap, ◌∙◌}
use mathlib.Core.Bool.{Bool, true, false}
use native.Mathlib.Omega.{arith}
use lib.Dec.{eqb}
use borrow.Author.Tests.{ne_eqb}
use Rattle.units.specs.declared.Micros.{Micros}
use Rattle.units.specs.declared.Ticks.{Ticks}
use Rattle.units.specs.Units.{length_of}
use Rattle.calls.specs.declared.Answer.{Answer}
use Rattle.calls.specs.declared.Kind.{Kind}
use Rattle.calls.specs.declared.Verdict.{Verdict}
use Rattle.calls.specs.declared.Verdict.TheVariants.{OutOfRange}
use Rattle.calls.specs.Answers.{number_of}
use Rattle.refusals.specs.Verdicts.{ids_verdict, start_timer_verdict, delay_verdict, first_verdict}
use Rattle.refusals.proofs.Delays.{first_refuses}
use Rattle.value_engine.specs.declared.Engine.{Engine}
use Rattle.value_engine.specs.declared.Stepped.{Stepped}
use Rattle.value_engine.specs.Engines.{timer_of, timer_started, answered_model, start_timer_model}
use Rattle.place_calls.proofs.Judging.{refused, accepted}

-- the verdict on the ids, the length of the delay, and the verdict of the whole
module _ (x : Engine) (id c : ℕ) (kind : Kind) (v : Micros) (ids verdict : Verdict) (l : Option Ticks) (read : ids ≡ ids_verdict x.started x.timercount id x.conditions c) (long : l ≡ length_of v) where
  -- the definition's verdict
  abbrev judgement : Verdict
  judgement = first_verdict (ids_verdict x.started x.timercount id x.conditions c) (delay_verdict (length_of v) (timer_of x id).state)

  -- out of range
  pub start_out_of_range : (a : Answer) → l ≡ None → verdict ≡ first_verdict ids OutOfRange
      → a ≡ record { number = number_of verdict; given = 255; running = x.scheduler.running } → record { engine = x; answer = a } ≡ start_timer_model x id c kind v
  unfolding start_timer_model delay_verdict
  start_out_of_range a out told answer =
      let delay : OutOfRange ≡ delay_verdict (length_of v) (timer_of x id).state = ap (λ m. delay_verdict m (timer_of x id).state) (sym out ∙ long) in
      let same : verdict ≡ judgement = told ∙ (λ i. first_verdict (read i) (delay i)) in
      refused x 255 false verdict judgement (sym (ne_eqb (number_of verdict) 0 (λ z. first_refuses ids OutOfRange (λ e. omega (arith, e)) (sym (ap number_of told) ∙ z)))) same
      (timer_started x id c kind (length_of v)) a answer refl

  -- in range, n ticks
  module _ (n : Ticks) (settled : Bool) (stopped : Verdict) (whole : l ≡ Some n) (state : stopped ≡ start_timer_verdict (timer_of x id).state) (told : verdict ≡ first_verdict ids stopped) (asked : settled ≡ eqb (number_of verdict) 0) where
    judged_so : verdict ≡ judgement
    unfolding delay_verdict
    judged_so =
        let delay : start_timer_verdict (timer_of x id).state ≡ delay_verdict (length_of v) (timer_of x id).state = ap (λ m. delay_verdict m (timer_of x id).state) (sym whole ∙ long) in
        told ∙ (λ i. first_verdict (read i) ((state ∙ delay) i))

    -- refused
    pub start_refused : (a : Answer) → a ≡ record { number = number_of verdict; given = 255; running = x.scheduler.running } → settled ≡ false → record { engine = x; answer = a } ≡ start_timer_model x id c kind v
    unfolding start_timer_model
    start_refused a answer some = refused x 255 settled verdict judgement asked judged_so (timer_started x id c kind (length_of v)) a answer some

    -- done
    pub start_done : (f : Engine) (y : Stepped) → y ≡ answered_model f 255 false → f ≡ timer_started x id c kind (Some n) → settled ≡ true → y ≡ start_timer_model x id c kind v
    unfolding start_timer_model
    start_done f y answer made none = accepted x 255 settled verdict judgement asked judged_so (timer_started x id c kind (length_of v)) f y answer (made ∙ ap (timer_started x id c kind) (sym whole ∙ long)) none
