-- Demand 3 with the saved record's bytes: from boot or a record that loads, through any number of calls, the answers and the saved record of
-- document 01's definition equal those of the plain book.
-- Assumes nothing.
use Prim.Native.Nat.{ℕ}
use mathlib.Core.Path.{◌≡◌, sym, ap, subst}
use mathlib.Core.List.{List}
use Rattle.calls.specs.declared.Verdict.TheVariants.{Done}
use Rattle.rules.specs.State.{State, boot}
use Rattle.book.specs.Book.{Book}
use Rattle.book.specs.Shown.{book_boot, enter}
use Rattle.book.specs.Answers.{Equal}
use Rattle.book.proofs.Demand.{demand_3_from_boot, demand_3_from_page}
use Rattle.record_bytes.specs.Demand.{EqualBytes}
use Rattle.record_bytes.specs.Record.{record_of, page_in}
use Rattle.record_bytes.specs.Loading.{Loaded, load}
use Rattle.record_bytes.proofs.Writing.{states_formed_lem}
use Rattle.record_bytes.proofs.Loading.{load_done, done_load}

-- equal pages are equal bytes
in_bytes : (s : State) (b : Book) → Equal s b → EqualBytes s b
in_bytes s b e rows = ((e rows).0, ap record_of (e rows).1)

-- from boot
pub demand_3_records_from_boot : EqualBytes boot book_boot
demand_3_records_from_boot = in_bytes boot book_boot demand_3_from_boot

-- from a record that loads
pub demand_3_records : (bytes : List ℕ) → (load bytes).answer ≡ Done → EqualBytes (load bytes).state (enter (page_in bytes))
demand_3_records bytes d =
    let w = done_load bytes d in
    subst (λ s. EqualBytes s (enter (page_in bytes))) (sym (ap (λ (x : Loaded). x.state) (load_done bytes w.0 w.1)))
    (in_bytes _ (enter (page_in bytes)) (demand_3_from_page (page_in bytes) (states_formed_lem bytes w.0) w.1))
