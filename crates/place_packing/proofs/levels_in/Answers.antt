-- `levels_in` makes the table entry by entry. Assumes nothing.
use Prim.Native.Nat.{◌%◌}
use mathlib.Core.Path.{◌∙◌}
use native.Mathlib.Omega.{arith}
use borrow.Author.Rules.{rules}
use Rattle.queue.specs.Linking.{empty_queue}
use Rattle.place_tables.specs.Cells.{queue_in}
use Rattle.place_tables.proofs.Storing.{queue_read}
use Rattle.laws.proofs.Making.{made}
use Rattle.place_packing.proofs.levels_in.Goals as goal

pub returns : goal.returns
returns c =
    made 16 (queue_in c.args.cells.now (c.args.n % 33))
    (λ i queue f l call. (λ j. (call.met.1.0 j, call.met.1.1 j), search (call, rules) ∙ queue_read _ _ i (omega arith) l)) c.from_fn.ensures.items empty_queue
