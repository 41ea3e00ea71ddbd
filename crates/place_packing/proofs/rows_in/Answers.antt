-- `rows_in` makes the table entry by entry. Assumes nothing.
use mathlib.Core.Path.{◌∙◌}
use borrow.Author.Rules.{rules}
use Rattle.value_tables.specs.Tables.{blank}
use Rattle.place_tables.specs.Cells.{thread_in}
use Rattle.laws.proofs.Making.{made}
use Rattle.place_packing.proofs.Reading.{thread_within}
use Rattle.place_packing.proofs.rows_in.Goals as goal

pub returns : goal.returns
returns c = made 32 (thread_in c.args.cells.now) (λ i row f l call. (λ j. record { 0 = call.met.1 j }, search (call, rules) ∙ thread_within _ i l)) c.from_fn.ensures.items blank
