-- `Queues::empty` is what its definition says. Assumes nothing.
use Rattle.queue.specs.Linking.{empty_queues}
use Rattle.queue.proofs.Queues.empty.Goals as goal

pub returns : goal.returns
unfolding empty_queues
returns c = simp c.empty-q.ensures
