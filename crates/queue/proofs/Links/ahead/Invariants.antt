-- `Links::ahead` goes the way that its definition says. The invariant: from the thread met, along the links that are left, the way gives what the whole
-- way gives. Assumes nothing.
use Rattle.queue.proofs.Searches.{OnWay}
use Rattle.queue.proofs.Links.ahead.Given as goal

abbrev pub invariant-loop-passed : goal.invariant-loop-passed
invariant-loop-passed l = OnWay l.self.next l.first l.t l.met l.passed
