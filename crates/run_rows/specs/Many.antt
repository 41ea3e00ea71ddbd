-- Many rows, one after the other, on an engine and without a test of soundness: the rows of some bytes, their answers, the engine after them, and whatever
-- is made of the answers in order. The text of a run, the sum of the benchmark and demand 3 are said by these.
-- Assumes nothing.
use Rattle.std.specs.Prelude.{ℕ, ◌/◌, List, [], ◌∷◌, length}
use Rattle.calls.specs.declared.Answer.{Answer}
use Rattle.record_bytes.specs.Record.{cut_rows}
use Rattle.value_engine.specs.declared.Engine.{Engine}
use Rattle.run_rows.specs.Rows.{row_model}

-- the whole rows of some bytes, in order; the up to 7 bytes behind them are no row
unfoldable pub rows_in : List ℕ → List (List ℕ)
rows_in bytes = cut_rows 8 (length bytes / 8) bytes

-- one answer for each row, in order
unfoldable pub inner_answers : Engine → List (List ℕ) → List Answer
inner_answers x [] = []
inner_answers x (row ∷ rows) = (row_model x row).answer ∷ inner_answers (row_model x row).engine rows

-- the engine after the last row
unfoldable pub inner_final : Engine → List (List ℕ) → Engine
inner_final x [] = x
inner_final x (row ∷ rows) = inner_final (row_model x row).engine rows

-- the engine that was reached, and what was made of the answers so far
pub record Reached (B : Type 0) : Type 0 where
  pub engine : Engine
  pub made : B

-- whatever is made of an answer after the other
module _ {B : Type 0} (add : B → Answer → B) where
  -- of some answers, in order
  unfoldable pub made_of : B → List Answer → B
  made_of b [] = b
  made_of b (answer ∷ answers) = made_of (add b answer) answers

  -- of the answers to some rows, with the engine after them
  unfoldable pub after_rows : Reached B → List (List ℕ) → Reached B
  after_rows r rows = record { engine = inner_final r.engine rows; made = made_of r.made (inner_answers r.engine rows) }
