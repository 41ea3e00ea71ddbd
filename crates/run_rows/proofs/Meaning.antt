-- A row of the engine that describes a sound state is document 01's row.
-- Assumes nothing.
use Rattle.std.specs.Prelude.{Some, None}
use mathlib.Core.Path.{◌≡◌, ap, ◌∙◌}
use mathlib.Core.Bool.{true}
use mathlib.Core.List.{List}
use Prim.Native.Nat.{ℕ}
use Rattle.calls.specs.declared.Answer.{Answer}
use Rattle.calls.specs.Rows.{decoded}
use Rattle.rules.specs.State.{State}
use Rattle.rules.specs.Sound.{sound}
use Rattle.rules.specs.Step.{step, step_row, step_decoded}
use Rattle.value_meaning.specs.Stands.{scheduler_of}
use Rattle.value_engine.specs.declared.Engine.{Engine}
use Rattle.value_engine.specs.declared.Stepped.{Stepped}
use Rattle.value_engine.specs.Stands.{engine_of, stepped_of}
use Rattle.value_engine.specs.Engines.{step_model}
use Rattle.place_step.specs.Turning.{wrong_row_model, decoded_model}
use Rattle.run_rows.specs.Rows.{row_model}

-- 17 of the engine that describes a sound state is document 01's 17
pub wrong_row_steps : (s : State) → sound s ≡ true → wrong_row_model (engine_of s) ≡ (step_decoded s None).answer
unfolding engine_of scheduler_of step_decoded
wrong_row_steps s e = rw e

-- every result that the model of 17 allows is the definition's
pub wrong_row_promise : (x : Engine) (r : Answer) → r ≡ wrong_row_model x
    → (r ≡ wrong_row_model x) × ((s : State) → sound s ≡ true → x ≡ engine_of s → r ≡ (step_decoded s None).answer)
wrong_row_promise x r e = (e, λ s o d. e ∙ ap wrong_row_model d ∙ wrong_row_steps s o)

-- a row of wrong form leaves the state as it is
wrong_steps : (s : State) → sound s ≡ true → decoded_model (engine_of s) None ≡ stepped_of (step_decoded s None)
unfolding decoded_model step_decoded
wrong_steps s e = λ i. record { engine = engine_of s; answer = wrong_row_steps s e i }

-- every result that the model of a row of wrong form allows is the definition's
pub wrong_promise : (x : Engine) (row : List ℕ) (r : Stepped) → decoded row ≡ None → r ≡ record { engine = x; answer = wrong_row_model x }
    → (r ≡ row_model x row) × ((s : State) → sound s ≡ true → x ≡ engine_of s → r ≡ stepped_of (step_row s row))
unfolding row_model decoded_model step_row
wrong_promise x row r w e = rw w (e, λ s o d. e ∙ ap (λ y. decoded_model y None) d ∙ wrong_steps s o)

-- every result that a call's promise allows is the row's
pub taken_promise : (x : Engine) (row : List ℕ) (r : Stepped) → {call : _} → decoded row ≡ Some call
    → (r ≡ step_model x call) × ((s : State) → sound s ≡ true → x ≡ engine_of s → r ≡ stepped_of (step s call))
    → (r ≡ row_model x row) × ((s : State) → sound s ≡ true → x ≡ engine_of s → r ≡ stepped_of (step_row s row))
unfolding row_model decoded_model step_row step_decoded
taken_promise x row r w p = rw w p
