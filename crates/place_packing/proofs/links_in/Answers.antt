-- `links_in` makes the table entry by entry. Assumes nothing.
use mathlib.Core.Path.{◌∙◌}
use borrow.Author.Rules.{rules}
use Rattle.place_tables.specs.Cells.{link_in}
use Rattle.laws.proofs.Making.{made}
use Rattle.place_packing.proofs.Reading.{link_within}
use Rattle.place_packing.proofs.links_in.Goals as goal

pub returns : goal.returns
returns c = made 32 (link_in c.args.cells.now) (λ i link f l call. (λ j. record { 0 = call.met.1 j }, search (call, rules) ∙ link_within _ i l)) c.from_fn.ensures.items 0
