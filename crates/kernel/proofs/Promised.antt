-- What the code makes of a sound kernel and of one that is not meets the promise of a step; and that promise allows one result, and one only.
-- Assumes nothing.
use Rattle.std.specs.Prelude.{Option}
use mathlib.Core.Path.{◌≡◌, refl, sym, ap, ◌∙◌}
use mathlib.Core.Logic.{◌⊎◌, inl, inr, ◌↔◌}
use mathlib.Core.Bool.{Bool, true, false, ◌&&◌, true≢false}
use Rattle.laws.proofs.Bools.{by_cases, and_left, and_right, and_both}
use Rattle.calls.specs.declared.Call.{Call}
use Rattle.calls.specs.Answers.{number_of}
use Rattle.rules.specs.State.{State}
use Rattle.rules.specs.Sound.{sound}
use Rattle.rules.specs.Step.{step_decoded}
use Rattle.value_engine.specs.declared.Engine.{Engine}
use Rattle.value_engine.specs.declared.Stepped as engine
use Rattle.value_engine.specs.Stands as stands
use Rattle.value_engine.specs.Stands.{engine_of}
use Rattle.sound_engine.specs.Rebuilding.{page_passes}
use Rattle.page_describing.specs.Describing.{describe_model}
use Rattle.page_building.specs.Building.{build_model}
use Rattle.kernel.specs.declared.Kernel.{Kernel}
use Rattle.kernel.specs.declared.Stepped.{Stepped}
use Rattle.kernel.specs.Kernels.{SoundKernel, stepped_of, refusal, unsound_verdict, Steps}
use Rattle.kernel.proofs.Tests.{same_engine}
use Rattle.kernel.proofs.Deciding.{engines_exactly}
use Rattle.kernel.proofs.Sound.{follows_decides, state_sound, sound_state, one_state}

-- ---- the two ways of a call

module _ (x : Kernel) {b : Bool} (tested : (b ≡ true) ↔ SoundKernel x) where
  -- the test failed: refused
  pub unsound_steps : (row : Option Call) (r : Stepped) → b ≡ false → r ≡ refusal x (number_of (unsound_verdict row)) → Steps x row r
  unsound_steps row r e q = record {
    of_sound = λ s o d. absurd (true≢false (sym (tested.1 (state_sound x s o d)) ∙ e));
    of_unsound = λ n. q;
  }

  -- the test passed: the engine's step
  pub sound_steps : (row : Option Call) (y : engine.Stepped) (r : Stepped) → b ≡ true → ((s : State) → sound s ≡ true → x.engine ≡ engine_of s → y ≡ stands.stepped_of (step_decoded s row))
      → r ≡ record { kernel = record { engine = y.engine }; answer = y.answer } → Steps x row r
  sound_steps row y r e means q = record {
    of_sound = λ s o d. q ∙ ap (λ (z : engine.Stepped). record { kernel = record { engine = z.engine }; answer = z.answer }) (means s o (ap (λ (z : Kernel). z.engine) d));
    of_unsound = λ n. absurd (n (tested.0 e));
  }

-- ---- one result only

-- a kernel is sound or it is not
pub sound_or_not : (x : Kernel) → SoundKernel x ⊎ (SoundKernel x → ⊥)
sound_or_not x = by_cases test (λ t. inl (sound.0 t)) (λ f. inr (λ w. true≢false (sym (sound.1 w) ∙ f)))
  where
    own : Engine
    own = build_model (describe_model x.engine)

    test : Bool
    test = page_passes x.engine && same_engine x.engine own

    same : (same_engine x.engine own ≡ true) ↔ (x.engine ≡ own)
    same = engines_exactly x.engine own

    sound : (test ≡ true) ↔ SoundKernel x
    sound = follows_decides x test (
      λ t. (and_left (page_passes x.engine) (same_engine x.engine own) t, same.0 (and_right (page_passes x.engine) (same_engine x.engine own) t)),
      λ f. and_both (page_passes x.engine) (same_engine x.engine own) f.0 (same.1 f.1),
    )

-- any two results that the promise of a step allows are equal
pub steps_once : (x : Kernel) (row : Option Call) (r q : Stepped) → Steps x row r → Steps x row q → r ≡ q
steps_once x row r q a b = go (sound_or_not x)
  where
    go : SoundKernel x ⊎ (SoundKernel x → ⊥) → r ≡ q
    go (inl w) = let s = sound_state x w in a.of_sound s.0 s.1 s.2 ∙ sym (b.of_sound s.0 s.1 s.2)
    go (inr n) = a.of_unsound n ∙ sym (b.of_unsound n)

-- ---- a result for every kernel

-- the promise of a step can be met, of every kernel whatever and every row
pub steps_met : (x : Kernel) (row : Option Call) → (r : Stepped) × Steps x row r
steps_met x row = go (sound_or_not x)
  where
    go : SoundKernel x ⊎ (SoundKernel x → ⊥) → (r : Stepped) × Steps x row r
    go (inl w) =
        let s = sound_state x w in (
          stepped_of (step_decoded s.0 row),
          record {
            of_sound = λ t o d. ap (λ (z : State). stepped_of (step_decoded z row)) (one_state s.0 t s.1 o (sym s.2 ∙ d));
            of_unsound = λ n. absurd (n w);
          },
        )
    go (inr n) = (
      refusal x (number_of (unsound_verdict row)),
      record { of_sound = λ t o d. absurd (n (state_sound x t o d)); of_unsound = λ m. refl },
    )
