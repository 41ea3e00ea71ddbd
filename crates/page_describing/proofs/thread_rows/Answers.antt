-- `thread_rows` makes the table entry by entry. Assumes nothing.
use borrow.Author.Rules.{rules}
use Rattle.rules.specs.Page.{no_row}
use Rattle.laws.proofs.Making.{made}
use Rattle.place_tables.specs.Cells.{scheduler_in}
use Rattle.page.specs.Says.{thread_for}
use Rattle.page_describing.specs.Describing.{thread_model}
use Rattle.page_describing.proofs.thread_rows.Goals as goal

pub returns : goal.returns
returns c = made 32 (thread_model (scheduler_in c.args.cells.now)) (λ i row f l call. (λ j. record { 0 = call.met.1 j }, search (call, rules))) c.from_fn.ensures.items (thread_for no_row)
