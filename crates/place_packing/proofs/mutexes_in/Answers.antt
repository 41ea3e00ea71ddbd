-- `mutexes_in` makes the table entry by entry. Assumes nothing.
use mathlib.Core.Path.{◌∙◌}
use borrow.Author.Rules.{rules}
use Rattle.value_effects.specs.Effects.{no_mutex}
use Rattle.place_tables.specs.Cells.{mutex_in}
use Rattle.laws.proofs.Making.{made}
use Rattle.place_packing.proofs.Reading.{mutex_within}
use Rattle.place_packing.proofs.mutexes_in.Goals as goal

pub returns : goal.returns
returns c = made 16 (mutex_in c.args.cells.now) (λ i row f l call. (λ j. record { 0 = call.met.1 j }, search (call, rules) ∙ mutex_within _ i l)) c.from_fn.ensures.items no_mutex
