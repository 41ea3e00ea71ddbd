-- A row of 8 bytes as one call of an engine.
-- Assumes nothing.
use Rattle.std.specs.Prelude.{ℕ, ◌+◌, cond, List, length, take, drop, replicate, leb}
use Rattle.calls.specs.Rows.{decoded}
use Rattle.value_engine.specs.declared.Engine.{Engine}
use Rattle.value_engine.specs.declared.Stepped.{Stepped}
use Rattle.place_step.specs.Turning.{decoded_model}

-- a row of 8 bytes
unfoldable pub row_model : Engine → List ℕ → Stepped
row_model x row = decoded_model x (decoded row)

-- the 8 bytes from a place on; eight zeros, a row of wrong form, where there are fewer
unfoldable pub row_at : List ℕ → ℕ → List ℕ
row_at bytes at = cond (leb (at + 8) (length bytes)) (take 8 (drop at bytes)) (replicate 8 0)
