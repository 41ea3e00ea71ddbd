-- `blank_scheduler` meets its contract. Assumes nothing.
use Rattle.page_building.specs.Building.{blank_scheduler}
use Rattle.page_building.proofs.blank_scheduler.Goals as goal

pub returns : goal.returns
unfolding blank_scheduler
returns c =
    rw (c.empty-empty.ensures, c.empty-links.ensures, c.runner-running.ensures, c.thread_rows-rows.ensures, c.tie_rows-ties.ensures, c.mutex_rows-mutexes.ensures)
