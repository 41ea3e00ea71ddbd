-- `run_first` meets its contract. Assumes nothing.
use mathlib.Core.Path.{◌≡◌}
use borrow.Author.Tests.{le-leb, lt-leb}
use Rattle.value_tables.specs.Tables as tables
use Rattle.value_tables.specs.Tables.{head_model, run_model}
use Rattle.value_effects.specs.Effects as scheduler
use Rattle.place_tables.specs.Cells.{scheduler_in}
use Rattle.place_tables.specs.Changes.{set_numbered, with_set}
use Rattle.place_queues.proofs.run_first.Goals as goal

pub returns-then-first-ge-PRIORITIES : goal.returns-then-first-ge-PRIORITIES
unfolding scheduler.run_first_model tables.run_first_model set_numbered
returns-then-first-ge-PRIORITIES c =
    let e : c.head-first.result ≡ head_model (scheduler_in c.args.cells.now).threads.ready = c.head-first.ensures in
    rw (← e, le-leb _ _ c.if-first-ge-PRIORITIES.true)

pub returns : goal.returns
unfolding scheduler.run_first_model tables.run_first_model run_model set_numbered with_set
returns c =
    let e : c.head-first.result ≡ head_model (scheduler_in c.args.cells.now).threads.ready = c.head-first.ensures in
    rw (c.put_running.ensures, c.stand.ensures, c.depart.ensures, ← e, lt-leb _ _ c.if-first-ge-PRIORITIES.false)
