-- What feeding, closing and ending promise can be met, of every run whatever, in any pieces and for any buffer.
-- Assumes nothing.
use Prim.Native.Nat.{ℕ}
use mathlib.Core.Path.{refl}
use mathlib.Core.List.{List, [], ◌∷◌, ◌++◌}
use lib.ListN.{length, take}
use Rattle.laws.proofs.Lists.{by_equal}
use Rattle.run_text.specs.Texts.{laid}
use Rattle.record.specs.declared.Saved.{Saved}
use Rattle.record.proofs.Saving.{saves_met}
use Rattle.run_pieces.specs.declared.Run.{Run}
use Rattle.run_pieces.specs.declared.Fed.{Fed}
use Rattle.run_pieces.specs.Pieces.{Gives, Ends, fed_run, fed_text, closed_run, closed_text, Feeds}
use Rattle.run_pieces.proofs.Laying.{gives_made}

-- feeding and closing
gives_met : (run : Run) (text before : List ℕ) → (r : Fed) × (buffer : List ℕ) × Gives run text before r buffer
gives_met run text before =
    let fed : Fed = record { run = run; used = length text } in
    (fed, laid before 0 text, gives_made run text before fed (laid before 0 text) refl refl refl)

-- any pieces fed one after the other and then closed
pub feeds_exist : (x : Run) (pieces : List (List ℕ)) → (written : List ℕ) × (y : Run) × Feeds x pieces written y
feeds_exist x [] =
    let one = gives_met (closed_run x) (closed_text x) [] in
    (take one.0.used one.1, one.0.run, (one.0, [], one.1, one.2, refl, refl))
feeds_exist x (piece ∷ pieces) =
    let one = gives_met (fed_run x piece) (fed_text x piece) [] in
    let others = feeds_exist one.0.run pieces in
    (take one.0.used one.1 ++ others.0, others.1, (one.0, [], one.1, others.0, one.2, refl, others.2))

-- ending
pub ends_met : (x : Run) (before : List ℕ) → (r : Saved) × (buffer : List ℕ) × Ends x before r buffer
ends_met x before = by_equal x.refused 0
    (λ e. let one = saves_met (record { engine = x.engine }) before in
    (one.0, one.1, record { of_run = λ z. one.2; of_refused = λ n. absurd (n e) }))
    (λ n. (record { answer = x.refused; length = 0 }, before, record { of_run = λ e. absurd (n e); of_refused = λ z. (refl, refl) }))
