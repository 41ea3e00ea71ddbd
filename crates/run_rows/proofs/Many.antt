-- A turn of a loop over rows, whatever it makes of the answers, and the loop's beginning and end.
-- Assumes nothing.
use Prim.Native.Nat.{ℕ, suc, ◌+◌, ◌*◌, ◌-◌, ◌/◌, ◌<◌, ◌≤◌}
use mathlib.Core.Path.{◌≡◌, sym, ap, ◌∙◌}
use mathlib.Core.List.{List, [], ◌∷◌}
use native.Mathlib.Nat.{sub-zero}
use native.Mathlib.Omega.{arith}
use borrow.Author.Tests.{le-leb}
use lib.ListN.{length, drop}
use lib.Seq.{drop-drop}
use Rattle.calls.specs.declared.Answer.{Answer}
use Rattle.record_bytes.specs.Record.{cut_rows}
use Rattle.calls.specs.Rows.{decoded}
use Rattle.value_engine.specs.declared.Engine.{Engine}
use Rattle.value_engine.specs.declared.Stepped.{Stepped}
use Rattle.place_step.specs.Turning.{decoded_model}
use Rattle.run_rows.specs.Rows.{row_model, row_at}
use Rattle.run_rows.specs.Many.{rows_in, inner_answers, inner_final, Reached, made_of, after_rows}

-- the rows of some bytes from row i on
abbrev pub rows_from : ℕ → List ℕ → List (List ℕ)
rows_from i bytes = cut_rows 8 (length bytes / 8 - i) (drop (i * 8) bytes)

-- they are row i and those after it
pub rows_on : (i : ℕ) (bytes : List ℕ) → i < length bytes / 8 → rows_from i bytes ≡ row_at bytes (i * 8) ∷ rows_from (i + 1) bytes
unfolding cut_rows row_at
rows_on i bytes h =
    let more : length bytes / 8 - i ≡ suc (length bytes / 8 - (i + 1)) = omega arith in
    let on : i * 8 + 8 ≡ (i + 1) * 8 = omega arith in
    let past : drop 8 (drop (i * 8) bytes) ≡ drop ((i + 1) * 8) bytes = drop-drop 8 (i * 8) bytes ∙ ap (λ k. drop k bytes) on in
    rw (more, le-leb (i * 8 + 8) (length bytes) (omega arith), past)

-- before the first turn all rows are left
pub begin_rows : (bytes : List ℕ) → rows_from 0 bytes ≡ rows_in bytes
unfolding rows_in
begin_rows bytes = ap (λ n. cut_rows 8 n bytes) (sub-zero (length bytes / 8))

-- after the last turn none is
pub end_rows : (i : ℕ) (bytes : List ℕ) → length bytes / 8 ≤ i → rows_from i bytes ≡ []
unfolding cut_rows
end_rows i bytes h =
    let none : length bytes / 8 - i ≡ 0 = omega arith in
    rw none

-- a row of 8 bytes taken apart and done is the row
pub row_done : (x : Engine) (row : List ℕ) (s : Stepped) → s ≡ decoded_model x (decoded row) → s ≡ row_model x row
unfolding row_model
row_done x row s e = e

module _ {B : Type 0} (add : B → Answer → B) where
  -- a turn: row i is done by s, and r holds the engine after it and what its answer was added to
  pub turned : (i : ℕ) (bytes row : List ℕ) (x r : Reached B) (s : Stepped) → i < length bytes / 8 → row ≡ row_at bytes (i * 8) → s ≡ row_model x.engine row
      → r ≡ record { engine = s.engine; made = add x.made s.answer } → after_rows add r (rows_from (i + 1) bytes) ≡ after_rows add x (rows_from i bytes)
  unfolding after_rows inner_answers inner_final made_of
  turned i bytes row x r s less read done made =
      let is : s ≡ row_model x.engine (row_at bytes (i * 8)) = done ∙ ap (row_model x.engine) read in
      ap (λ q. after_rows add q (rows_from (i + 1) bytes)) made
      ∙ ap (λ (z : Stepped). after_rows add (record { engine = z.engine; made = add x.made z.answer }) (rows_from (i + 1) bytes)) is
      ∙ ap (after_rows add x) (sym (rows_on i bytes less))

  -- the end: what is reached is what the whole comes to
  pub rows_end : (i : ℕ) (bytes : List ℕ) (x r : Reached B) → length bytes / 8 ≤ i → after_rows add r (rows_from i bytes) ≡ after_rows add x (rows_from 0 bytes) → r ≡ after_rows add x (rows_in bytes)
  unfolding after_rows inner_answers inner_final made_of
  rows_end i bytes x r done all =
      let none : r ≡ after_rows add r (rows_from i bytes) = sym (ap (after_rows add r) (end_rows i bytes done)) in
      none ∙ all ∙ ap (after_rows add x) (begin_rows bytes)
