-- `ties_in` makes the table entry by entry. Assumes nothing.
use mathlib.Core.Path.{◌∙◌}
use borrow.Author.Rules.{rules}
use Rattle.place_tables.specs.Cells.{tie_in}
use Rattle.laws.proofs.Making.{made}
use Rattle.place_packing.proofs.Reading.{tie_within}
use Rattle.place_packing.proofs.ties_in.Goals as goal

pub returns : goal.returns
returns c = made 16 (tie_in c.args.cells.now) (λ i tie f l call. (λ j. record { 0 = call.met.1 j }, search (call, rules) ∙ tie_within _ i l)) c.from_fn.ensures.items 0
