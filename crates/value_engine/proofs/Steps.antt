-- Demand 2's heart: a call of the engine that describes a sound state gives the engine and the answer of document 01's step, so that the engine
-- describes a sound state again. And boot is document 01's boot.
-- Assumes nothing.
use Rattle.std.specs.Prelude.{None}
use mathlib.Core.Path.{◌≡◌, refl, sym, ap, ◌∙◌}
use mathlib.Core.Bool.{true}
use mathlib.Core.List.{flatten}
use Rattle.laws.specs.Lists.{tabulate}
use Rattle.queue.specs.Linking.{back_model, level_model, with_level_model, empty_links, empty_queues}
use Rattle.queue.specs.Stands.{ends_of, links_of, queues_of}
use Rattle.value_tables.specs.Tables.{arrive_model, join_model, stand_model}
use Rattle.wheel.specs.Hung.{empty}
use Rattle.rules.specs.Queues.{empty_set, to_back}
use Rattle.rules.specs.Page.{state_code, object_code, timer_code}
use Rattle.value_meaning.specs.Stands.{all_sets, threads_of, scheduler_of}
use Rattle.calls.specs.declared.Call.{Call}
use Rattle.calls.specs.declared.Call.TheVariants.{Start, CreateThread, CreateMutex, CreateCondition, CreateTimer, Acquire, Release, Wait, Signal, Broadcast, StartTimer, StopTimer, Tick}
use Rattle.calls.specs.declared.Verdict.TheVariants.{WrongRow}
use Rattle.rules.specs.State.{State, highest_ceiling, priority, set_at, boot}
use Rattle.rules.specs.Sound.{sound}
use Rattle.rules.specs.Step.{step, step_sound, step_decoded}
use Rattle.rules_soundness.proofs.Facts.{Sound}
use Rattle.rules_soundness.proofs.Tested.{sound_facts}
use Rattle.rules_soundness.proofs.Kept.{sound_steps}
use Rattle.value_engine.specs.declared.Stepped.{Stepped}
use Rattle.value_engine.specs.declared.Engine.{Engine}
use Rattle.value_engine.specs.Engines.{boot_model, refused_model, step_model}
use Rattle.value_engine.specs.Stands.{engine_of, stepped_of}
use Rattle.value_engine.proofs.Answers.{refused_stands}
use Rattle.value_engine.proofs.Calls.{start_steps, create_thread_steps, create_mutex_steps, create_condition_steps, create_timer_steps, acquire_steps, release_steps, wait_steps, signal_steps, broadcast_steps}
use Rattle.value_engine.proofs.Timers.{start_timer_steps, stop_timer_steps}
use Rattle.value_engine.proofs.Tick.{tick_steps}

steps : {s : State} → Sound s → (call : Call) → step_model (engine_of s) call ≡ stepped_of (step_sound s call)
unfolding step_model
steps o Start = start_steps o
steps o (CreateThread base) = create_thread_steps o base
steps o (CreateMutex ceiling) = create_mutex_steps o ceiling
steps o CreateCondition = create_condition_steps o
steps o CreateTimer = create_timer_steps o
steps o (Acquire m) = acquire_steps o m
steps o (Release m) = release_steps o m
steps o (Wait c m) = wait_steps o c m
steps o (Signal c) = signal_steps o c
steps o (Broadcast c) = broadcast_steps o c
steps o (StartTimer i c kind v) = start_timer_steps o i c kind v
steps o (StopTimer i) = stop_timer_steps o i
steps o Tick = tick_steps o

-- a call of the engine that describes a sound state is document 01's step
pub engine_steps : (s : State) → sound s ≡ true → (call : Call) → step_model (engine_of s) call ≡ stepped_of (step s call)
engine_steps s e call = steps (sound_facts s e) call ∙ ap stepped_of (sym (sound_steps s call e))

-- so every result that the code's model allows is the definition's, for every sound state that the engine describes
pub step_promise : (x : Engine) (call : Call) (r : Stepped) → r ≡ step_model x call
    → (r ≡ step_model x call) × ((s : State) → sound s ≡ true → x ≡ engine_of s → r ≡ stepped_of (step s call))
step_promise x call r e = (e, λ s o d. e ∙ ap (λ y. step_model y call) d ∙ engine_steps s o call)

-- 17 of the engine that describes a sound state is document 01's 17
wrong_steps : (s : State) → sound s ≡ true → refused_model (engine_of s) WrongRow ≡ stepped_of (step_decoded s None)
unfolding step_decoded
wrong_steps s e = rw e (refused_stands s WrongRow)

-- so every result that the model of 17 allows is the definition's
pub wrong_promise : (x : Engine) (r : Stepped) → r ≡ refused_model x WrongRow
    → (r ≡ refused_model x WrongRow) × ((s : State) → sound s ≡ true → x ≡ engine_of s → r ≡ stepped_of (step_decoded s None))
wrong_promise x r e = (e, λ s o d. e ∙ ap (λ y. refused_model y WrongRow) d ∙ wrong_steps s o)

-- boot is document 01's boot
pub boot_stands : boot_model ≡ engine_of boot
unfolding boot_model engine_of boot scheduler_of threads_of all_sets tabulate links_of queues_of ends_of flatten empty_set to_back priority highest_ceiling set_at state_code object_code timer_code arrive_model join_model stand_model back_model level_model with_level_model empty_links empty_queues empty
boot_stands = refl
