-- `Threads::run_first` meets its contract: by the test on the head, and each call by its own. Assumes nothing.
use borrow.Author.Tests.{le-leb, lt-leb}
use Rattle.value_tables.specs.Tables.{run_model, run_first_model}
use Rattle.value_tables.proofs.Threads.run_first.Goals as goal

pub returns-then-first-ge-PRIORITIES : goal.returns-then-first-ge-PRIORITIES
unfolding run_first_model
returns-then-first-ge-PRIORITIES c = rw (← c.highest_first-first.ensures, le-leb _ _ c.if-first-ge-PRIORITIES.true)

pub returns : goal.returns
unfolding run_model run_first_model
returns c =
    rw (← c.highest_first-first.ensures, lt-leb _ _ c.if-first-ge-PRIORITIES.false, c.stand-threads.ensures, c.depart-departed.ensures)
