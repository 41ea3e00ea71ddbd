-- `sound` meets its contract: where a test does not hold by `refused`, and where all do by the law of all tests. Assumes nothing.
use mathlib.Core.Path.{sym, ◌∙◌}
use Prim.Native.Nat.{◌<◌}
use native.Mathlib.Omega.{arith}
use Rattle.laws.proofs.Bools.{and-true}
use Rattle.sound_page.proofs.Whole.{refused, sound_law}
use Rattle.sound_page.proofs.sound.Goals as goal

pub returns-then-not-limits_sound : goal.returns-then-not-limits_sound
returns-then-not-limits_sound c = refused _ 0 (sym c.limits_sound.ensures ∙ c.if-not-limits_sound.true)

pub returns-then-not-form_sound : goal.returns-then-not-form_sound
returns-then-not-form_sound c = refused _ 1 (sym c.form_sound.ensures ∙ c.if-not-form_sound.true)

pub returns-then-not-bases_sound : goal.returns-then-not-bases_sound
returns-then-not-bases_sound c = refused _ 2 (sym c.bases_sound.ensures ∙ c.if-not-bases_sound.true)

pub returns-then-not-ceilings_sound : goal.returns-then-not-ceilings_sound
returns-then-not-ceilings_sound c = refused _ 3 (sym c.ceilings_sound.ensures ∙ c.if-not-ceilings_sound.true)

pub returns-then-not-idle_sound : goal.returns-then-not-idle_sound
returns-then-not-idle_sound c = refused _ 4 (sym c.idle_sound.ensures ∙ c.if-not-idle_sound.true)

pub returns-then-not-runner_sound : goal.returns-then-not-runner_sound
returns-then-not-runner_sound c = refused _ 5 (rw c.runner_of-runner.ensures at (sym c.runner_sound.ensures ∙ c.if-not-runner_sound.true))

pub returns-then-not-none_above : goal.returns-then-not-none_above
returns-then-not-none_above c =
    refused _ 6 (rw (c.top_of-top.ensures, c.priorities_of-priorities.ensures, c.runner_of-runner.ensures) at (sym c.none_above.ensures ∙ c.if-not-none_above.true))

pub returns-then-not-objects_exist : goal.returns-then-not-objects_exist
returns-then-not-objects_exist c = refused _ 7 (sym c.objects_exist.ensures ∙ c.if-not-objects_exist.true)

pub returns-then-not-mutexes_sound : goal.returns-then-not-mutexes_sound
returns-then-not-mutexes_sound c =
    refused _ 8 (rw c.priorities_of-priorities.ensures at (sym c.mutexes_sound.ensures ∙ c.if-not-mutexes_sound.true))

pub returns-then-not-conditions_sound : goal.returns-then-not-conditions_sound
returns-then-not-conditions_sound c = refused _ 9 (sym c.conditions_sound.ensures ∙ c.if-not-conditions_sound.true)

pub returns-then-not-timers_sound : goal.returns-then-not-timers_sound
returns-then-not-timers_sound c = refused _ 10 (sym c.timers_sound.ensures ∙ c.if-not-timers_sound.true)

pub returns-then-not-rest_sound : goal.returns-then-not-rest_sound
returns-then-not-rest_sound c = refused _ 11 (sym c.rest_sound.ensures ∙ c.if-not-rest_sound.true)

pub returns-then-not-object_codes_sound : goal.returns-then-not-object_codes_sound
returns-then-not-object_codes_sound c = refused _ 12 (sym c.object_codes_sound.ensures ∙ c.if-not-object_codes_sound.true)

pub returns : goal.returns
returns c =
    let fits : c.args.page.count < 4294967296 = omega (arith, c.well_formed) in
    rw (
      sound_law c.args.page fits,
      ← c.runner_of-runner.ensures,
      ← c.top_of-top.ensures,
      ← c.priorities_of-priorities.ensures,
      sym c.limits_sound.ensures ∙ c.if-not-limits_sound.false,
      sym c.form_sound.ensures ∙ c.if-not-form_sound.false,
      sym c.bases_sound.ensures ∙ c.if-not-bases_sound.false,
      sym c.ceilings_sound.ensures ∙ c.if-not-ceilings_sound.false,
      sym c.idle_sound.ensures ∙ c.if-not-idle_sound.false,
      sym c.runner_sound.ensures ∙ c.if-not-runner_sound.false,
      sym c.none_above.ensures ∙ c.if-not-none_above.false,
      sym c.objects_exist.ensures ∙ c.if-not-objects_exist.false,
      sym c.mutexes_sound.ensures ∙ c.if-not-mutexes_sound.false,
      sym c.conditions_sound.ensures ∙ c.if-not-conditions_sound.false,
      sym c.timers_sound.ensures ∙ c.if-not-timers_sound.false,
      sym c.rest_sound.ensures ∙ c.if-not-rest_sound.false,
      sym c.object_codes_sound.ensures ∙ c.if-not-object_codes_sound.false,
      and-true,
    ) c.places_sound.ensures
