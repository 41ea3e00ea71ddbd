-- `pass` meets its contract, by `for_mutex_lem` and `leaves_mutex`. Assumes nothing.
use Rattle.value_effects.specs.Effects.{pass_model, pass_to_model}
use borrow.Author.Tests.{le-leb, lt-leb}
use mathlib.Core.Path.{ap, ◌∙◌}
use Rattle.value_tables.specs.Tables.{head_model}
use Rattle.place_tables.specs.Cells.{scheduler_in}
use Rattle.place_queues.proofs.Joins.{for_mutex_lem}
use Rattle.place_queues.proofs.Waits.{leaves_mutex}
use Rattle.place_effects.proofs.pass.Goals as goal

pub returns-then-first-ge-PRIORITIES : goal.returns-then-first-ge-PRIORITIES
unfolding pass_model
returns-then-first-ge-PRIORITIES c =
    let x = scheduler_in c.args.cells.now in
    let e = c.head-first.ensures ∙ ap head_model (for_mutex_lem x c.args.m) in
    rw (← e, le-leb _ _ c.if-first-ge-PRIORITIES.true) c.own.ensures

pub returns : goal.returns
unfolding pass_model pass_to_model
returns c =
    let x = scheduler_in c.args.cells.now in
    let e = c.head-first.ensures ∙ ap head_model (for_mutex_lem x c.args.m) in
    let left = c.depart.ensures ∙ leaves_mutex x c.args.m _ in
    rw (← e, lt-leb _ _ c.if-first-ge-PRIORITIES.false, c.arrive.ensures, c.own-2.ensures, left)
