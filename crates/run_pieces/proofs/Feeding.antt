-- What the code of feeding and closing makes is what is promised: of a refused run, and of one that goes on.
-- Assumes nothing.
use Prim.Native.Nat.{ℕ, ◌+◌, ◌%◌, ◌^◌, ◌<◌, ◌≤◌}
use mathlib.Core.Path.{◌≡◌, refl, sym, ap, ap₂, ◌∙◌}
use mathlib.Core.Bool.{true, cond}
use mathlib.Core.List.{List, [], ◌++◌, append-nil}
use native.Mathlib.Nat.{add-zero}
use native.Mathlib.Omega.{arith}
use borrow.Author.Tests.{eq-eqb, ne_eqb}
use lib.Dec.{eqb}
use lib.ListN.{length, replicate, length-append, take-append-drop}
use Rattle.laws.proofs.Bools.{by_cases}
use Rattle.place_step.specs.Turning.{wrong_row_model}
use Rattle.run_text.specs.Texts.{line_bytes, laid, collected, used_after}
use Rattle.run_lines.specs.declared.Lines.{Lines}
use Rattle.run_rows.specs.Many.{rows_in, inner_final, Reached}
use Rattle.run_lines.specs.Output.{next, last_after, numbered, Laying, add_line, added_to, Room, rows_laid}
use Rattle.run_lines.proofs.Order.{length_laid, line_laid}
use Rattle.run_pieces.specs.declared.Run.{Run}
use Rattle.run_pieces.specs.Pieces.{kept_by, rest_of, padded, after, told, opening, lines_by, cut_of, cut_by, fed_text, fed_run, closed_text, closed_run, Gives}
use Rattle.run_pieces.proofs.Laying.{opening_fits, first_laid, laid_on, gives_made}

-- the run after some rows, of equal parts
run_parts : (x : Run) (bytes : List ℕ) (w : Reached Laying) (rest : List ℕ) (count : ℕ) → w.engine ≡ inner_final x.engine (rows_in bytes)
    → w.made.lines.last ≡ last_after x.last (length (rows_in bytes)) → rest ≡ padded (rest_of bytes) → count ≡ length bytes
    → ◌≡◌ {A = Run} (record { engine = w.engine; last = w.made.lines.last; opened = true; kept = rest; count = count % 8; refused = x.refused }) (after x bytes)
run_parts x bytes w rest count e l k n = λ i. record { engine = e i; last = l i; opened = true; kept = k i; count = n i % 8; refused = x.refused }

module _ (x : Run) (o : List ℕ) (used : ℕ) (o' : List ℕ) (size : length o ≡ 65536) (byte : x.refused < 256)
    (counted : used ≡ used_after o 0 (opening x.opened x.refused)) (made : o' ≡ collected o 0 (opening x.opened x.refused)) where
  -- what stands first
  first : List ℕ
  first = opening x.opened x.refused

  -- it has at most 48 bytes
  few : length first ≤ 48
  unfolding first
  few = opening_fits x.opened x.refused byte

  -- it is used
  used_first : used ≡ length first
  unfolding first
  used_first = counted ∙ (first_laid o first (omega (arith, few))).0

  -- it is laid
  laid_first : o' ≡ laid o 0 first
  unfolding first
  laid_first = made ∙ (first_laid o first (omega (arith, few))).1

  -- a refused run that is fed
  pub refused_fed : (x.refused ≡ 0 → ⊥) → (piece : List ℕ) → Gives (fed_run x piece) (fed_text x piece) o (record { run = told x; used = used }) o'
  unfolding fed_run fed_text first
  refused_fed n piece =
      rw (ne_eqb x.refused 0 n, append-nil first) (gives_made (told x) first o (record { run = told x; used = used }) o' refl used_first laid_first)

  -- a refused run that is closed
  pub refused_closed : (x.refused ≡ 0 → ⊥) → Gives (closed_run x) (closed_text x) o (record { run = told x; used = used }) o'
  unfolding closed_run closed_text first
  refused_closed n =
      rw (ne_eqb x.refused 0 n, append-nil first) (gives_made (told x) first o (record { run = told x; used = used }) o' refl used_first laid_first)

  -- a run that is fed
  module _ (goes : x.refused ≡ 0) (piece : List ℕ) (short : length (kept_by x ++ piece) ≤ 8199) (w : Reached Laying)
      (rows : Room (record { last = x.last; used = used }) (kept_by x ++ piece) o' → w ≡ rows_laid x.engine (record { last = x.last; used = used }) (rows_in (kept_by x ++ piece)) o')
      (rest : List ℕ) (count : ℕ) (keeps : rest ≡ padded (rest_of (kept_by x ++ piece))) (counts : count ≡ length (kept_by x ++ piece)) where
    -- there is room
    laid_rows : w ≡ rows_laid x.engine (record { last = x.last; used = used }) (rows_in (kept_by x ++ piece)) o'
    laid_rows = rows (rw (laid_first, length_laid o 0 first (omega (arith, few))) (omega (arith, used_first, few, short)))

    pub going_fed : Gives (fed_run x piece) (fed_text x piece) o
        (record { run = record { engine = w.engine; last = w.made.lines.last; opened = true; kept = rest; count = count % 8; refused = x.refused }; used = w.made.lines.used }) w.made.output
    unfolding fed_run fed_text rows_laid first
    going_fed =
        let bytes = kept_by x ++ piece in
        let text = lines_by x bytes in
        let e = laid_rows in
        let run = run_parts x bytes w rest count (ap (λ (v : Reached Laying). v.engine) e) (ap (λ (v : Reached Laying). v.made.lines.last) e) keeps counts in
        let long : w.made.lines.used ≡ length (first ++ text) = ap (λ (v : Reached Laying). v.made.lines.used) e ∙ ap (λ u. u + length text) used_first ∙ sym (length-append first text) in
        let output : w.made.output ≡ laid o 0 (first ++ text) = ap (λ (v : Reached Laying). v.made.output) e ∙ ap₂ (λ b u. laid b u text) laid_first used_first ∙ laid_on o first text (omega (arith, few)) in
        rw (eq-eqb x.refused 0 goes) (gives_made (after x bytes) (first ++ text) o _ w.made.output run long output)

  -- a run that is closed
  module _ (goes : x.refused ≡ 0) (low : x.last < 2 ^ 64) (m : Lines) (o'' : List ℕ)
      (lines : m ≡ cond (eqb x.count 0) (record { last = x.last; used = used }) (add_line (record { last = x.last; used = used }) (wrong_row_model x.engine) o'))
      (output : o'' ≡ cond (eqb x.count 0) o' (added_to (record { last = x.last; used = used }) (wrong_row_model x.engine) o'))
      (short : length (numbered x.last (cut_by x)) ≤ 48) where
    -- the line of a row that is cut short, laid behind what stands first
    line_behind : (m ≡ record { last = last_after x.last (length (cut_by x)); used = used + length (numbered x.last (cut_by x)) }) × (o'' ≡ laid o' used (numbered x.last (cut_by x)))
    unfolding cut_of numbered
    line_behind =
        by_cases (eqb x.count 0)
        (λ e. (lines ∙ rw e (same_lines x.last _ used _ (omega arith) (sym (add-zero used))), output ∙ rw (e, add-zero used) (sym (take-append-drop used o'))))
        (λ e.
        let line = line_bytes (next x.last) (wrong_row_model x.engine) in
        let fits : length line ≤ 48 = omega (arith, rw e at short, length-append line []) in
        let room : used + length line ≤ length o' = rw (laid_first, length_laid o 0 first (omega (arith, few))) (omega (arith, used_first, few)) in
        let added = line_laid (record { last = x.last; used = used }) (wrong_row_model x.engine) o' room in
        (lines ∙ rw (e, append-nil line) added.0, output ∙ rw (e, append-nil line) added.1))
      where
        same_lines : (l l' u u' : ℕ) → l ≡ l' → u ≡ u' → ◌≡◌ {A = Lines} (record { last = l; used = u }) (record { last = l'; used = u' })
        same_lines l l' u u' p q = λ i. record { last = p i; used = q i }

    pub going_closed : Gives (closed_run x) (closed_text x) o
        (record { run = record { engine = x.engine; last = m.last; opened = true; kept = replicate 8 0; count = 0; refused = x.refused }; used = m.used }) o''
    unfolding closed_run closed_text first
    going_closed =
        let text = numbered x.last (cut_by x) in
        let e = line_behind in
        let run : ◌≡◌ {A = Run} (record { engine = x.engine; last = m.last; opened = true; kept = replicate 8 0; count = 0; refused = x.refused })
        (record { engine = x.engine; last = last_after x.last (length (cut_by x)); opened = true; kept = replicate 8 0; count = 0; refused = x.refused })
        = λ i. record { engine = x.engine; last = (e.0 i).last; opened = true; kept = replicate 8 0; count = 0; refused = x.refused } in
        let long : m.used ≡ length (first ++ text) = ap (λ (v : Lines). v.used) e.0 ∙ ap (λ u. u + length text) used_first ∙ sym (length-append first text) in
        let whole : o'' ≡ laid o 0 (first ++ text) = e.1 ∙ ap₂ (λ b u. laid b u text) laid_first used_first ∙ laid_on o first text (omega (arith, few)) in
        rw (eq-eqb x.refused 0 goes) (gives_made _ (first ++ text) o _ o'' run long whole)
