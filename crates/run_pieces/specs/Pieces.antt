-- A run in pieces: what it keeps from piece to piece, and what beginning, feeding, closing and ending it promise, for every run whatever.
-- Assumes nothing.
use Rattle.std.specs.Prelude.{ℕ, ◌*◌, ◌-◌, ◌/◌, ◌%◌, ◌≤◌, min, ◌≡◌, Bool, true, false, cond, List, [], ◌∷◌, ◌++◌, length, take, drop, replicate, eqb}
use Rattle.calls.specs.declared.Answer.{Answer}
use Rattle.calls.specs.Answers.{number_of}
use Rattle.record_bytes.specs.Loading as loading
use Rattle.record_bytes.specs.Loading.{load, save}
use Rattle.value_engine.specs.declared.Engine.{Engine}
use Rattle.value_engine.specs.Stands.{engine_of}
use Rattle.place_step.specs.Turning.{wrong_row_model}
use Rattle.record.specs.declared.Saved.{Saved}
use Rattle.record.specs.Records.{saved_of, Saves}
use Rattle.run_text.specs.Texts.{heading_bytes, refusal_bytes, laid}
use Rattle.run_lines.specs.declared.Lines.{Lines}
use Rattle.run_rows.specs.Many.{rows_in, inner_answers, inner_final}
use Rattle.run_lines.specs.Output.{last_after, numbered, add_line, added_to}
use Rattle.run_pieces.specs.declared.Run.{Run}
use Rattle.run_pieces.specs.declared.Fed.{Fed}
use Rattle.run_pieces.specs.declared.Again.{Again}
use Rattle.run_pieces.specs.Whole.{Start, begun}

-- ---- what a run keeps

-- the run of an engine and the answer to its start: nothing is fed, and nothing is written
abbrev pub run_of : Engine → ℕ → Run
run_of x answer = record { engine = x; last = 0; opened = false; kept = replicate 8 0; count = 0; refused = answer }

-- the run at a start
abbrev pub run_at : Start → Run
run_at start = run_of (engine_of (begun start).state) (number_of (begun start).answer)

-- the bytes that it keeps of a row that is cut, at most 7
abbrev pub kept_by : Run → List ℕ
kept_by x = take (min x.count 7) x.kept

-- the bytes behind the whole rows
abbrev pub rest_of : List ℕ → List ℕ
rest_of bytes = drop (length bytes / 8 * 8) bytes

-- at most 8 bytes, with zeros behind them to be 8
abbrev pub padded : List ℕ → List ℕ
padded bytes = bytes ++ replicate (8 - length bytes) 0

-- the run after the whole rows of some bytes: it keeps the rest
abbrev pub after : Run → List ℕ → Run
after x bytes = record {
  engine = inner_final x.engine (rows_in bytes);
  last = last_after x.last (length (rows_in bytes));
  opened = true;
  kept = padded (rest_of bytes);
  count = length bytes % 8;
  refused = x.refused;
}

-- a refused run goes nowhere: only its one line is then written
abbrev pub told : Run → Run
told x = record { engine = x.engine; last = x.last; opened = true; kept = x.kept; count = x.count; refused = x.refused }

-- ---- what is written

-- what stands first in a run's text: the heading, or the line of a refused start; nothing where that is written
unfoldable pub opening : Bool → ℕ → List ℕ
opening opened refused = cond opened [] (cond (eqb refused 0) heading_bytes (refusal_bytes refused))

-- the lines of the whole rows of some bytes
abbrev pub lines_by : Run → List ℕ → List ℕ
lines_by x bytes = numbered x.last (inner_answers x.engine (rows_in bytes))

-- the answer to a row that is cut short, where so many bytes of one are kept
unfoldable pub cut_of : ℕ → Engine → List Answer
cut_of count x = cond (eqb count 0) [] (wrong_row_model x ∷ [])

-- that of a run
abbrev pub cut_by : Run → List Answer
cut_by x = cut_of x.count x.engine

-- ---- a piece

-- the text of a piece
unfoldable pub fed_text : Run → List ℕ → List ℕ
fed_text x piece = opening x.opened x.refused ++ cond (eqb x.refused 0) (lines_by x (kept_by x ++ piece)) []

-- the run after it
unfoldable pub fed_run : Run → List ℕ → Run
fed_run x piece = cond (eqb x.refused 0) (after x (kept_by x ++ piece)) (told x)

-- the text of closing
unfoldable pub closed_text : Run → List ℕ
closed_text x = opening x.opened x.refused ++ cond (eqb x.refused 0) (numbered x.last (cut_by x)) []

-- the run after closing: what was kept of a row is gone
unfoldable pub closed_run : Run → Run
closed_run x =
    cond (eqb x.refused 0)
    (record { engine = x.engine; last = last_after x.last (length (cut_by x)); opened = true; kept = replicate 8 0; count = 0; refused = x.refused })
    (told x)

-- ---- the promises

-- what feeding and closing give: the run that follows, and its text first in the buffer, with the rest as it was; how much is used lies within it
pub record Gives (run : Run) (text before : List ℕ) (r : Fed) (buffer : List ℕ) : Type 0 where
  pub run_after : r.run ≡ run
  pub text_first : take r.used buffer ≡ text
  pub rest : buffer ≡ laid before 0 text
  pub within : (r.used ≤ length buffer) × (r.used ≡ length (take r.used buffer))

-- what ending gives: the save of the kernel that the run has reached; of a refused run its own refusal, and the buffer as it was
pub record Ends (x : Run) (before : List ℕ) (r : Saved) (buffer : List ℕ) : Type 0 where
  pub of_run : x.refused ≡ 0 → Saves (record { engine = x.engine }) before r buffer
  pub of_refused : (x.refused ≡ 0 → ⊥) → (r ≡ record { answer = x.refused; length = 0 }) × (buffer ≡ before)

-- the kept bytes of a row that is cut, and then those held of a block
abbrev pub kept_then : List ℕ → ℕ → List ℕ → ℕ → List ℕ
kept_then kept count block held = take (min count 7) kept ++ take held block

-- what joining gives: how many they are, which is at most 8,199, and they stand first in the array
abbrev pub Joins : List ℕ → List ℕ → ℕ → List ℕ → Type 0
Joins bytes before r array = (r ≡ length bytes) × (array ≡ laid before 0 bytes) × (r ≤ 8199)

-- what the line of a row that is cut short gives: the lines, and the buffer, with one line of at most 48 bytes where bytes are kept
abbrev pub Cuts : Engine → ℕ → Lines → List ℕ → Lines → List ℕ → Type 0
Cuts x count lines before r buffer =
    (r ≡ cond (eqb count 0) lines (add_line lines (wrong_row_model x) before)) ×
    (buffer ≡ cond (eqb count 0) before (added_to lines (wrong_row_model x) before)) ×
    (length (numbered lines.last (cut_of count x)) ≤ 48)

-- a record loaded and saved again: the answer of its load, and the save of the state that load hands back, boot's where it is refused
abbrev pub again_of : List ℕ → List ℕ → Again
again_of bytes before = record { answer = number_of (load bytes).answer; saved = saved_of (save (load bytes).state before) }

-- ---- pieces one after the other

-- whatever the promises of `feed` and `close` allow: pieces fed one after the other and then closed, what is written, text after text, and the run then
abbrev pub Feeds : Run → List (List ℕ) → List ℕ → Run → Type 0
Feeds x [] written y =
    (r : Fed) × (before : List ℕ) × (buffer : List ℕ)
    × Gives (closed_run x) (closed_text x) before r buffer × (written ≡ take r.used buffer) × (y ≡ r.run)
Feeds x (piece ∷ pieces) written y =
    (r : Fed) × (before : List ℕ) × (buffer : List ℕ) × (others : List ℕ)
    × Gives (fed_run x piece) (fed_text x piece) before r buffer × (written ≡ take r.used buffer ++ others) × Feeds r.run pieces others y

-- whatever the promise of `end` allows is a save of document 01
abbrev pub EndsAs : Run → (List ℕ → loading.Saved) → Type 0
EndsAs y saves = (before : List ℕ) (r : Saved) (buffer : List ℕ) → Ends y before r buffer → (r ≡ saved_of (saves before)) × (buffer ≡ (saves before).buffer)
