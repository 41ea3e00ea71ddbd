-- The laws about document 01's step that others rest on. A refused call changes nothing; a state that is not sound changes in nothing; a sound
-- state and any call give a sound state; no ready thread stands above the running one.
-- Assumes nothing.
use Rattle.std.specs.Prelude.{Option, Some, None}
use Prim.Native.Nat.{ℕ, ◌≤◌}
use mathlib.Core.Path.{◌≡◌, refl}
use mathlib.Core.Bool.{true}
use mathlib.Core.List.{List}
use lib.Dec.{eqb}
use Rattle.laws.proofs.Bools.{by_cases}
use Rattle.calls.specs.declared.Call.{Call}
use Rattle.calls.specs.Answers.{number_of}
use Rattle.calls.specs.Rows.{decoded}
use Rattle.rules.specs.Queues.{empty_set, to_back}
use Rattle.rules.specs.State.{ready, same, State, at, highest_ceiling, priority, owned, set_at, boot}
use Rattle.rules.specs.Refusals.{verdict_of}
use Rattle.rules.specs.Sound.{each, members, mem, distinct, timers_sound, none_goes, holds, sound}
use Rattle.rules.specs.Step.{runner, step_sound, step, step_decoded, step_row}
use Rattle.rules_soundness.proofs.Keeping.{sound_stays}
use Rattle.rules_soundness.proofs.Tested.{sound_facts, facts_sound}

-- the step of a sound state, and of one that is not
pub sound_steps : (s : State) (call : Call) → sound s ≡ true → step s call ≡ step_sound s call
unfolding step
sound_steps s call e = rw e

-- a call that is not answered 0 changes nothing
pub refused_changes_nothing : (s : State) (call : Call) → ((step s call).answer.number ≡ 0 → ⊥) → (step s call).state ≡ s
unfolding step step_sound
refused_changes_nothing s call n = by_cases (sound s)
    (λ e. rw e (by_cases (eqb (number_of (verdict_of s call)) 0)
    (λ y. absurd (n (rw (e, y))))
    (λ y. rw y)))
    (λ e. rw e)

-- a sound state and any call give a sound state
pub soundness_is_kept : (s : State) (call : Call) → sound s ≡ true → sound (step s call).state ≡ true
soundness_is_kept s call e = rw (sound_steps s call e) (facts_sound (step_sound s call).state (sound_stays (sound_facts s e) call))

-- and so do a sound state and any row that was taken apart
pub decoded_keeps : (s : State) (row : Option Call) → sound s ≡ true → sound (step_decoded s row).state ≡ true
unfolding step_decoded
decoded_keeps s None e = e
decoded_keeps s (Some call) e = soundness_is_kept s call e

-- and so does a row of 8 bytes
pub row_keeps : (s : State) (row : List ℕ) → sound s ≡ true → sound (step_row s row).state ≡ true
unfolding step_row
row_keeps s row e = decoded_keeps s (decoded row) e

-- no ready thread stands above the running one
pub none_ready_above : (s : State) → sound s ≡ true → s.scheduler.rows.started ≡ true → (t : ℕ) → at s.scheduler.rows ready t ≡ true → priority s.scheduler.rows t ≤ priority s.scheduler.rows (runner s)
none_ready_above s e on = ((sound_facts s e).live on).top

-- boot is sound
pub boot_is_sound : sound boot ≡ true
unfolding sound each members mem distinct timers_sound none_goes holds same at highest_ceiling priority owned set_at boot empty_set to_back
boot_is_sound = refl
