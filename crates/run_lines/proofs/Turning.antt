-- One row more: for the length of the lines, and its line as the code makes it.
-- Assumes nothing.
use Rattle.std.proofs.Common.{◌≡◌, ℕ, ◌+◌, ◌*◌, ◌/◌, ◌<◌, ◌≤◌, List, ◌∷◌, length, ap, ◌∙◌, arith, length-append}
use Rattle.value_engine.specs.declared.Engine.{Engine}
use Rattle.value_engine.specs.declared.Stepped.{Stepped}
use Rattle.run_rows.specs.Rows.{row_model, row_at}
use Rattle.run_rows.specs.Many.{inner_answers}
use Rattle.run_rows.proofs.Many.{rows_from, rows_on, turned}
use Rattle.calls.specs.declared.Answer.{Answer}
use Rattle.run_text.specs.declared.Text.{Text}
use Rattle.run_text.specs.Texts.{line_bytes, text_of, bytes_of, collected, used_after}
use Rattle.run_text.proofs.Collecting.{bytes_of_lem}
use Rattle.run_lines.specs.declared.Lines.{Lines}
use Rattle.run_lines.specs.Output.{next, numbered, at, add_line, added_to, add_one, rows_written}

-- the length of the lines of some rows
abbrev pub lines_length : Engine → ℕ → List (List ℕ) → ℕ
lines_length x last rows = length (numbered last (inner_answers x rows))

-- a turn of the loop: what the code makes of row i is one row more
pub line_turned : (i : ℕ) (bytes row : List ℕ) (x : Engine) (m : Lines) (o : List ℕ) (s : Stepped) (m' : Lines) (o' : List ℕ) → i < length bytes / 8 → row ≡ row_at bytes (i * 8) → s ≡ row_model x row
    → m' ≡ add_line m s.answer o → o' ≡ added_to m s.answer o → rows_written (at s.engine m' o') (rows_from (i + 1) bytes) ≡ rows_written (at x m o) (rows_from i bytes)
line_turned i bytes row x m o s m' o' less read done made added = turned add_one i bytes row (at x m o) (at s.engine m' o') s less read done (λ j. at s.engine (made j) (added j))

-- the number of the line of one answer more
pub number_after : (m m' : Lines) (answer : Answer) (o : List ℕ) → m' ≡ add_line m answer o → m'.last ≡ next m.last
unfolding add_line
number_after m m' answer o e = ap (λ (l : Lines). l.last) e

-- a turn of the loop: where each line has at most 48 bytes, so have the lines so far for each row
pub turned_short : (i : ℕ) (x y : Engine) (last : ℕ) (m : Lines) (bytes row : List ℕ) (s : Stepped) (whole : ℕ) → i < length bytes / 8 → row ≡ row_at bytes (i * 8) → s ≡ row_model x row
    → y ≡ s.engine → m.last ≡ next last → length (line_bytes (next last) s.answer) ≤ 48 → whole ≤ 48 * i + lines_length x last (rows_from i bytes)
    → whole ≤ 48 * (i + 1) + lines_length y m.last (rows_from (i + 1) bytes)
turned_short i x y last m bytes row s whole less read done engine number short all =
    let is : s ≡ row_model x (row_at bytes (i * 8)) = done ∙ ap (row_model x) read in
    let line = rw is at short in
    let split : lines_length x last (rows_from i bytes) ≡ length (line_bytes (next last) (row_model x (row_at bytes (i * 8))).answer) + lines_length (row_model x (row_at bytes (i * 8))).engine (next last) (rows_from (i + 1) bytes)
    = ap (lines_length x last) (rows_on i bytes less) ∙ one_line x (row_at bytes (i * 8)) (rows_from (i + 1) bytes) in
    rw (engine, number, is) (omega (arith, line, split, all))
  where
    one_line : (z : Engine) (r : List ℕ) (rows : List (List ℕ)) → lines_length z last (r ∷ rows) ≡ length (line_bytes (next last) (row_model z r).answer) + lines_length (row_model z r).engine (next last) rows
    one_line z r rows = unfold numbered in (unfold inner_answers in (length-append (line_bytes (next last) (row_model z r).answer) _))

-- the line of one answer more, as the code makes it
pub line_added : (lines : Lines) (answer : Answer) (o : List ℕ) (last : ℕ) (t : Text) (used : ℕ) (o' : List ℕ) → last ≡ next lines.last
    → t ≡ text_of (line_bytes last answer) → used ≡ used_after o lines.used (bytes_of t) → o' ≡ collected o lines.used (bytes_of t)
    → (◌≡◌ {A = Lines} (record { last = last; used = used }) (add_line lines answer o)) × (o' ≡ added_to lines answer o)
unfolding add_line added_to
line_added lines answer o last t used o' e f g h =
    let holds : bytes_of t ≡ line_bytes (next lines.last) answer = ap bytes_of f ∙ bytes_of_lem (line_bytes last answer) ∙ ap (λ n. line_bytes n answer) e in
    ((λ i. record { last = e i; used = (g ∙ ap (used_after o lines.used) holds) i }), h ∙ ap (collected o lines.used) holds)
