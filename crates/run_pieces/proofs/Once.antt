-- What feeding, closing and ending promise leaves one result only.
-- Assumes nothing.
use Prim.Native.Nat.{ℕ}
use mathlib.Core.Path.{◌≡◌, sym, ap, ◌∙◌}
use mathlib.Core.List.{List}
use lib.ListN.{length}
use Rattle.laws.proofs.Lists.{by_equal}
use Rattle.record.specs.declared.Saved.{Saved}
use Rattle.record.proofs.Saving.{saves_once}
use Rattle.run_pieces.specs.declared.Run.{Run}
use Rattle.run_pieces.specs.declared.Fed.{Fed}
use Rattle.run_pieces.specs.Pieces.{Gives, Ends}

-- feeding and closing
pub gives_once : (run : Run) (text before : List ℕ) (r q : Fed) (a b : List ℕ) → Gives run text before r a → Gives run text before q b → (r ≡ q) × (a ≡ b)
gives_once run text before r q a b m n =
    let used : r.used ≡ q.used = m.within.1 ∙ ap length (m.text_first ∙ sym n.text_first) ∙ sym n.within.1 in
    ((λ i. record { run = (m.run_after ∙ sym n.run_after) i; used = used i }), m.rest ∙ sym n.rest)

-- ending
pub ends_once : (x : Run) (before : List ℕ) (r q : Saved) (a b : List ℕ) → Ends x before r a → Ends x before q b → (r ≡ q) × (a ≡ b)
ends_once x before r q a b m n =
    by_equal x.refused 0
    (λ e. saves_once _ before r q a b (m.of_run e) (n.of_run e))
    (λ e. ((m.of_refused e).0 ∙ sym (n.of_refused e).0, (m.of_refused e).1 ∙ sym (n.of_refused e).1))
