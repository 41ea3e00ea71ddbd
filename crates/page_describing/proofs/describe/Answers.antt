-- `describe` meets its contract: each table by its own call, and the law that carries the model to the page of the state. Assumes nothing.
use Rattle.place_tables.specs.Cells.{scheduler_in}
use Rattle.page_describing.specs.Describing.{describe_model}
use Rattle.page_describing.proofs.Means.{describe_promise}
use Rattle.page_describing.proofs.describe.Goals as goal

pub returns-clause-always : goal.returns-clause-always
unfolding describe_model scheduler_in
returns-clause-always c =
    rw (c.thread_rows.ensures, c.mutexes_in.ensures, c.ties_in.ensures, c.timer_rows.ensures, c.count_at.ensures)

pub returns-clause-means : goal.returns-clause-means
returns-clause-means c = (describe_promise _ _ (returns-clause-always c)).1
