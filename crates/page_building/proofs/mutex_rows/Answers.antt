-- `mutex_rows` makes the table entry by entry. Assumes nothing.
use borrow.Author.Rules.{rules}
use lib.ListN.{get_or}
use Rattle.page.specs.Says.{no_mutex_row}
use Rattle.page_building.specs.Building.{free_row, mutex_rows}
use Rattle.page_building.proofs.Turns.{in_use}
use Rattle.page_building.proofs.mutex_rows.Goals as goal

pub returns : goal.returns
unfolding mutex_rows
returns c =
    let a = c.args in
    in_use 16 a.n (λ i. get_or a.rows i no_mutex_row) free_row (λ i row f l call. (λ j. (call.met.1.0 j, call.met.1.1 j), search (call, rules))) c.from_fn.ensures.items
