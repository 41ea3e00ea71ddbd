-- Where a buffer has room for the lines, they stand in it whole and in order, after the used part.
-- Assumes nothing.
use Rattle.std.proofs.Common.{◌≡◌, ℕ, ◌+◌, ◌^◌, ◌<◌, ◌≤◌, List, [], ◌∷◌, ◌++◌, length, take, drop, sym, ap, ◌∙◌, ap₂, append_assoc, add-zero, arith, length-append, length-drop, take-append-drop, length-take-le, drop-drop, take_at, drop_at, le-leb}
use Rattle.calls.specs.declared.Answer.{Answer}
use Rattle.value_engine.specs.declared.Engine.{Engine}
use Rattle.run_rows.specs.Rows.{row_model}
use Rattle.run_text.specs.Texts.{line_bytes, laid, collected, used_after}
use Rattle.run_lines.specs.declared.Lines.{Lines}
use Rattle.run_rows.specs.Many.{inner_answers, inner_final, made_of, after_rows}
use Rattle.run_lines.specs.Output.{next, numbered, at, add_line, added_to, rows_written, rows_laid}

-- laid one after the other is laid at once
pub laid_laid : (o : List ℕ) (used : ℕ) (l m : List ℕ) → used + length l ≤ length o → laid (laid o used l) (used + length l) m ≡ laid o used (l ++ m)
laid_laid o used l m h =
    let front : length (take used o ++ l) ≡ used + length l = length-append (take used o) l ∙ ap (λ k. k + length l) (length-take-le used o (omega arith)) in
    let split : laid o used l ≡ (take used o ++ l) ++ drop (used + length l) o = sym (append_assoc (take used o) l (drop (used + length l) o)) in
    let kept : take (used + length l) (laid o used l) ≡ take used o ++ l = ap (take (used + length l)) split ∙ take_at (take used o ++ l) (drop (used + length l) o) (used + length l) front in
    let rest : drop (used + length l) (laid o used l) ≡ drop (used + length l) o = ap (drop (used + length l)) split ∙ drop_at (take used o ++ l) (drop (used + length l) o) (used + length l) front in
    let sum : used + length l + length m ≡ used + length (l ++ m) = omega (arith, length-append l m) in
    let past : drop (used + length l + length m) (laid o used l) ≡ drop (used + length (l ++ m)) o =
    sym (drop-drop (length m) (used + length l) (laid o used l)) ∙ ap (drop (length m)) rest ∙ drop-drop (length m) (used + length l) o ∙ ap (λ k. drop k o) sum in
    ap₂ (λ a b. a ++ (m ++ b)) kept past ∙ append_assoc (take used o) l (m ++ drop (used + length (l ++ m)) o)
    ∙ ap (λ r. take used o ++ r) (sym (append_assoc l m (drop (used + length (l ++ m)) o)))

-- what is laid leaves the buffer as long as it was
pub length_laid : (o : List ℕ) (used : ℕ) (l : List ℕ) → used + length l ≤ length o → length (laid o used l) ≡ length o
length_laid o used l h =
    simp length-append (omega (arith, length-take-le used o (omega arith), length-drop (used + length l) o))

-- the line of one answer more, where there is room for it
pub line_laid : (m : Lines) (a : Answer) (o : List ℕ) → m.used + length (line_bytes (next m.last) a) ≤ length o
    → (add_line m a o ≡ record { last = next m.last; used = m.used + length (line_bytes (next m.last) a) })
    × (added_to m a o ≡ laid o m.used (line_bytes (next m.last) a))
unfolding add_line added_to used_after collected
line_laid m a o h = (rw (le-leb _ _ h), rw (le-leb _ _ h))

-- the last number, how much is used, and the buffer, each for an equal one
alike : (x : Engine) (l l' u u' : ℕ) (o o' : List ℕ) → l ≡ l' → u ≡ u' → o ≡ o'
    → at x (record { last = l; used = u }) o ≡ at x (record { last = l'; used = u' }) o'
alike x l l' u u' o o' p q r = λ i. at x (record { last = p i; used = q i }) (r i)

-- where there is room for the lines of some rows, these are laid after the used part, in order
pub rows_laid_lem : (rows : List (List ℕ)) (x : Engine) (m : Lines) (o : List ℕ) → m.last < 2 ^ 64 → m.used + length (numbered m.last (inner_answers x rows)) ≤ length o
    → rows_written (at x m o) rows ≡ rows_laid x m rows o
unfolding after_rows made_of rows_laid numbered inner_answers inner_final
rows_laid_lem [] x m o low h =
    alike x m.last _ m.used _ o _ (omega arith) (sym (add-zero m.used)) (rw (add-zero m.used) (sym (take-append-drop m.used o)))
rows_laid_lem (row ∷ rows) x m o low h =
    let s = row_model x row in
    let l = line_bytes (next m.last) s.answer in
    let rest = numbered (next m.last) (inner_answers s.engine rows) in
    let sum = length-append l rest in
    let room : m.used + length l ≤ length o = omega (arith, sum, h) in
    let m' : Lines = record { last = next m.last; used = m.used + length l } in
    let one = line_laid m s.answer o room in
    let fits : m.used + length l + length rest ≤ length (laid o m.used l) = rw (length_laid o m.used l room) (omega (arith, sum, h)) in
    let all = rows_laid_lem rows s.engine m' (laid o m.used l) (omega arith) fits in
    ap₂ (λ a b. rows_written (at s.engine a b) rows) one.0 one.1 ∙ all
    ∙ alike (inner_final s.engine rows) _ _ _ _ _ _ (omega arith) (omega (arith, sum)) (laid_laid o m.used l rest room)
