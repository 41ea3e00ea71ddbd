-- `tie_rows` makes the table entry by entry. Assumes nothing.
use borrow.Author.Rules.{rules}
use lib.ListN.{get_or}
use Rattle.page_building.specs.Building.{tie_rows}
use Rattle.page_building.proofs.Turns.{in_use}
use Rattle.page_building.proofs.tie_rows.Goals as goal

pub returns : goal.returns
unfolding tie_rows
returns c =
    let a = c.args in
    in_use 16 a.n (λ i. get_or a.rows i 0) 255 (λ i tie f l call. (λ j. (call.met.1.0 j, call.met.1.1 j), search (call, rules))) c.from_fn.ensures.items
