-- `ahead` goes the way that its definition says. The invariant: from the thread met, along the links that are left, the way gives what the whole way gives.
-- Assumes nothing.
use Rattle.queue.proofs.Searches.{OnWay}
use Rattle.place_tables.specs.Cells.{scheduler_in}
use Rattle.place_queues.specs.Joining.{links_kept}
use Rattle.place_queues.proofs.ahead.Given as goal

abbrev pub invariant-loop : goal.invariant-loop
invariant-loop l = OnWay (links_kept (scheduler_in l.cells)).next l.first l.t l.met l.counter
