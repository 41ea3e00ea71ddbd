-- The lines of some answers, and what laying the lines of rows into a buffer makes of it.
-- Assumes nothing.
use Rattle.std.specs.Prelude.{ℕ, ◌+◌, ◌*◌, ◌/◌, ◌%◌, ◌^◌, ◌≤◌, List, [], ◌∷◌, ◌++◌, length}
use Rattle.calls.specs.declared.Answer.{Answer}
use Rattle.value_engine.specs.declared.Engine.{Engine}
use Rattle.run_rows.specs.Many.{inner_answers, inner_final, Reached, after_rows}
use Rattle.run_text.specs.Texts.{line_bytes, laid, collected, used_after}
use Rattle.run_lines.specs.declared.Lines.{Lines}

-- ---- lines

-- the number of the line n lines after line `last`
abbrev pub last_after : ℕ → ℕ → ℕ
last_after last n = (last + n) % 2 ^ 64

-- the number of the line after line `last`
abbrev pub next : ℕ → ℕ
next last = last_after last 1

-- one line for each answer, in order, with the numbers after `last`
unfoldable pub numbered : ℕ → List Answer → List ℕ
numbered last [] = []
numbered last (answer ∷ answers) = line_bytes (next last) answer ++ numbered (next last) answers

-- ---- laid into a buffer

-- the lines so far, and the buffer that holds them
pub record Laying : Type 0 where
  pub lines : Lines
  pub output : List ℕ

-- the engine that was reached with these
abbrev pub at : Engine → Lines → List ℕ → Reached Laying
at x lines output = record { engine = x; made = record { lines = lines; output = output } }

-- the lines with that of one answer more
unfoldable pub add_line : Lines → Answer → List ℕ → Lines
add_line lines answer output =
    record { last = next lines.last; used = used_after output lines.used (line_bytes (next lines.last) answer) }

-- the buffer with the line of one answer more
unfoldable pub added_to : Lines → Answer → List ℕ → List ℕ
added_to lines answer output = collected output lines.used (line_bytes (next lines.last) answer)

-- with the line of one answer more
abbrev pub add_one : Laying → Answer → Laying
add_one b answer = record { lines = add_line b.lines answer b.output; output = added_to b.lines answer b.output }

-- rows one after the other
abbrev pub rows_written : Reached Laying → List (List ℕ) → Reached Laying
rows_written w rows = after_rows add_one w rows

-- a buffer that has room for the lines of the rows whatever their answers are: 48 bytes for each, after the used part
abbrev pub Room : Lines → List ℕ → List ℕ → Type 0
Room lines bytes output = lines.used + 48 * (length bytes / 8) ≤ length output

-- the rows in a buffer that has room: their lines stand after the used part, and what is behind them is as it was
unfoldable pub rows_laid : Engine → Lines → List (List ℕ) → List ℕ → Reached Laying
rows_laid x lines rows output =
    let text = numbered lines.last (inner_answers x rows) in
    at (inner_final x rows) (record { last = last_after lines.last (length rows); used = lines.used + length text }) (laid output lines.used text)
