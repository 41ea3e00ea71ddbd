-- From a sound state the inner step repeated gives document 01's answers and the state after them, and that state is sound.
-- Assumes nothing.
use Rattle.std.specs.Prelude.{Option, Some, None}
use Prim.Native.Nat.{ℕ}
use mathlib.Core.Path.{◌≡◌, refl, sym, ap, ◌∙◌}
use mathlib.Core.Bool.{true}
use mathlib.Core.List.{List, [], ◌∷◌, map}
use Rattle.calls.specs.declared.Call.{Call}
use Rattle.calls.specs.Rows.{decoded}
use Rattle.rules.specs.State.{State}
use Rattle.rules.specs.Sound.{sound}
use Rattle.rules.specs.Step.{step_row}
use Rattle.rules_soundness.proofs.Kept.{row_keeps}
use Rattle.book.specs.Answers.{answers_of, final_of}
use Rattle.book.proofs.Demand as demand
use Rattle.value_engine.specs.Stands.{engine_of, stepped_of}
use Rattle.value_engine.specs.Engines.{step_model}
use Rattle.value_engine.proofs.Steps.{step_promise}
use Rattle.run_rows.specs.Rows.{row_model}
use Rattle.run_rows.proofs.Meaning.{wrong_promise, taken_promise}
use Rattle.run_rows.specs.Many.{inner_answers, inner_final}

-- a row of the engine that describes a sound state is document 01's row
pub row_steps : (s : State) → sound s ≡ true → (row : List ℕ) → row_model (engine_of s) row ≡ stepped_of (step_row s row)
row_steps s e row = by (decoded row) refl
  where
    by : (d : Option Call) → decoded row ≡ d → row_model (engine_of s) row ≡ stepped_of (step_row s row)
    by None w = let p = wrong_promise (engine_of s) row _ w refl in sym p.0 ∙ p.1 s e refl
    by (Some call) w = let p = taken_promise (engine_of s) row (step_model (engine_of s) call) w (step_promise (engine_of s) call _ refl) in sym p.0 ∙ p.1 s e refl

-- the inner step repeated gives document 01's answers and the state after them
pub inner_rows_step : (s : State) → sound s ≡ true → (rows : List (List ℕ)) → (inner_answers (engine_of s) rows ≡ answers_of s (map decoded rows)) × (inner_final (engine_of s) rows ≡ engine_of (final_of s (map decoded rows)))
unfolding inner_answers inner_final answers_of final_of step_row
inner_rows_step s e [] = (refl, refl)
inner_rows_step s e (row ∷ rows) =
    let one = row_steps s e row in
    let others = inner_rows_step (step_row s row).state (row_keeps s row e) rows in (
      ap (λ r. r.answer ∷ inner_answers r.engine rows) one ∙ ap (λ rest. (step_row s row).answer ∷ rest) others.0,
      ap (λ r. inner_final r.engine rows) one ∙ others.1,
    )

-- soundness is kept through any number of rows
pub rows_keep : (s : State) → sound s ≡ true → (rows : List (List ℕ)) → sound (final_of s (map decoded rows)) ≡ true
rows_keep s e rows = demand.rows_keep s e (map decoded rows)
