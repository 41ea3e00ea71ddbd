-- `timer_rows` makes the table entry by entry. Assumes nothing.
use borrow.Author.Rules.{rules}
use lib.ListN.{get_or}
use Rattle.value_engine.specs.Engines.{stopped_row}
use Rattle.page.specs.Says.{no_timer_row}
use Rattle.page_building.specs.Building.{timer_from, timer_rows}
use Rattle.page_building.proofs.Turns.{in_use}
use Rattle.page_building.proofs.timer_rows.Goals as goal

pub returns : goal.returns
unfolding timer_rows
returns c =
    let a = c.args in
    in_use 32 a.n (λ i. timer_from (get_or a.rows i no_timer_row)) stopped_row (λ i row f l call. (λ j. (call.met.1.0 j, call.met.1.1 j), search (call, rules))) c.from_fn.ensures.items
