-- Bytes one after the other: their rows, the answers to these, and the lines of the answers.
-- Assumes nothing.
use Prim.Native.Nat.{ℕ, zero, suc, ◌+◌, ◌*◌, ◌/◌, ◌%◌, ◌<◌, ◌≤◌, min}
use mathlib.Core.Path.{◌≡◌, refl, sym, ap, ap₂, ◌∙◌}
use mathlib.Core.List.{List, [], ◌∷◌, ◌++◌, append_assoc}
use native.Mathlib.Omega.{arith}
use lib.ListN.{length, take, drop, length-append, length-drop}
use lib.Seq.{take-append-le, drop-append-le, drop-drop, take_at}
use Rattle.calls.specs.declared.Answer.{Answer}
use Rattle.record_bytes.specs.Record.{cut_rows}
use Rattle.value_engine.specs.declared.Engine.{Engine}
use Rattle.run_rows.specs.Rows.{row_model}
use Rattle.run_text.specs.Texts.{line_bytes}
use Rattle.run_rows.specs.Many.{rows_in, inner_answers, inner_final}
use Rattle.run_lines.specs.Output.{next, last_after, numbered}
use Rattle.run_pieces.specs.declared.Run.{Run}
use Rattle.run_pieces.specs.Pieces.{kept_by, rest_of, padded, after}

-- ---- rows

-- some rows and then some more
cut_more : (n m : ℕ) (bytes : List ℕ) → cut_rows 8 (n + m) bytes ≡ cut_rows 8 n bytes ++ cut_rows 8 m (drop (n * 8) bytes)
unfolding cut_rows
cut_more zero m bytes =
    let none : 0 + m ≡ m = omega arith in
    rw none
cut_more (suc n) m bytes =
    let sum : suc n + m ≡ suc (n + m) = omega arith in
    let past : 8 + n * 8 ≡ suc n * 8 = omega arith in
    rw sum (ap (λ rows. take 8 bytes ∷ rows) (cut_more n m (drop 8 bytes) ∙ ap (λ l. cut_rows 8 n (drop 8 bytes) ++ cut_rows 8 m l) (drop-drop (n * 8) 8 bytes ∙ ap (λ k. drop k bytes) past)))

-- rows that lie within the first of two lists
cut_first : (n : ℕ) (b c : List ℕ) → n * 8 ≤ length b → cut_rows 8 n (b ++ c) ≡ cut_rows 8 n b
unfolding cut_rows
cut_first zero b c h = refl
cut_first (suc n) b c h =
    rw (take-append-le 8 b c (omega arith), drop-append-le 8 b c (omega arith)) (ap (λ rows. take 8 b ∷ rows) (cut_first n (drop 8 b) c (omega (arith, length-drop 8 b))))

-- what is behind the whole rows has as many bytes as are left
pub rest_length : (bytes : List ℕ) → length (rest_of bytes) ≡ length bytes % 8
rest_length bytes = length-drop (length bytes / 8 * 8) bytes ∙ omega arith

-- the rows of two lists: those of the first, and those of what is behind them with the second
pub rows_join : (b c : List ℕ) → rows_in (b ++ c) ≡ rows_in b ++ rows_in (rest_of b ++ c)
unfolding rows_in
rows_join b c =
    let n = length b / 8 in
    let m = length (rest_of b ++ c) / 8 in
    let sum : length (b ++ c) / 8 ≡ n + m = omega (arith, length-append b c, length-append (rest_of b) c, rest_length b) in
    ap (λ k. cut_rows 8 k (b ++ c)) sum ∙ cut_more n m (b ++ c)
    ∙ ap₂ (λ rows rest. rows ++ cut_rows 8 m rest) (cut_first n b c (omega arith)) (drop-append-le (n * 8) b c (omega arith))

-- fewer than 8 bytes are no row
pub no_rows : (bytes : List ℕ) → length bytes < 8 → rows_in bytes ≡ []
unfolding rows_in cut_rows
no_rows bytes h =
    let none : length bytes / 8 ≡ 0 = omega arith in
    rw none

-- a run keeps what is behind the whole rows
pub kept_after : (x : Run) (bytes : List ℕ) → kept_by (after x bytes) ≡ rest_of bytes
kept_after x bytes =
    let few : min (length bytes % 8) 7 ≡ length (rest_of bytes) = omega (arith, rest_length bytes) in
    ap (λ k. take k (padded (rest_of bytes))) few ∙ take_at (rest_of bytes) _ (length (rest_of bytes)) refl

-- ---- answers and lines

-- the answers to some rows and then to others
pub answers_join : (x : Engine) (a b : List (List ℕ)) → inner_answers x (a ++ b) ≡ inner_answers x a ++ inner_answers (inner_final x a) b
unfolding inner_answers inner_final
answers_join x [] b = refl
answers_join x (row ∷ a) b = ap (λ rest. (row_model x row).answer ∷ rest) (answers_join (row_model x row).engine a b)

-- the engine after some rows and then others
pub final_join : (x : Engine) (a b : List (List ℕ)) → inner_final x (a ++ b) ≡ inner_final (inner_final x a) b
unfolding inner_final
final_join x [] b = refl
final_join x (row ∷ a) b = final_join (row_model x row).engine a b

-- one answer for each row
pub answers_length : (x : Engine) (rows : List (List ℕ)) → length (inner_answers x rows) ≡ length rows
unfolding inner_answers
answers_length x [] = refl
answers_length x (row ∷ rows) = ap suc (answers_length (row_model x row).engine rows)

-- a number of 64 bits counts on as the number itself does
numbered_again : (last : ℕ) (answers : List Answer) → numbered (last_after last 0) answers ≡ numbered last answers
unfolding numbered
numbered_again last [] = refl
numbered_again last (answer ∷ answers) =
    let same : next (last_after last 0) ≡ next last = omega arith in
    ap (λ n. line_bytes n answer ++ numbered n answers) same

-- the lines of some answers and then of others
pub numbered_join : (last : ℕ) (a b : List Answer) → numbered last (a ++ b) ≡ numbered last a ++ numbered (last_after last (length a)) b
unfolding numbered
numbered_join last [] b = sym (numbered_again last b)
numbered_join last (answer ∷ a) b =
    let on : last_after (next last) (length a) ≡ last_after last (length (answer ∷ a)) = omega arith in
    ap (λ l. line_bytes (next last) answer ++ l) (numbered_join (next last) a b ∙ ap (λ n. numbered (next last) a ++ numbered n b) on)
    ∙ sym (append_assoc (line_bytes (next last) answer) (numbered (next last) a) (numbered (last_after last (length (answer ∷ a))) b))
