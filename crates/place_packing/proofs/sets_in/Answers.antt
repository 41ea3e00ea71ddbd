-- `sets_in` makes the table entry by entry. Assumes nothing.
use Prim.Native.Nat.{◌+◌}
use mathlib.Core.Path.{refl, ap, ◌∙◌}
use native.Mathlib.Omega.{arith}
use borrow.Author.Rules.{rules}
use Rattle.queue.specs.Linking.{empty_queues}
use Rattle.place_tables.specs.Cells.{set_in}
use Rattle.place_packing.specs.Tables.{first_set}
use Rattle.laws.proofs.Making.{made}
use Rattle.place_packing.proofs.Putting.{number}
use Rattle.place_packing.proofs.sets_in.Goals as goal

pub returns : goal.returns
returns c =
    let kind = c.args.kind in
    made 16 (λ m. set_in c.args.cells.now (first_set kind + m))
    (λ i set f l call. (λ j. (call.met.1.0 j, call.met.1.1 j), search (call, rules) ∙ ap (set_in c.args.cells.now) (number (first_set kind + i) _ refl (omega arith)))) c.from_fn.ensures.items empty_queues
