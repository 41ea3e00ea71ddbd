-- `Links::front` does what its definition says. Assumes nothing.
use Rattle.queue.proofs.Cases.{cases}
use Rattle.queue.specs.Linking.{front_model}
use Rattle.queue.proofs.Links.front.Goals as goal

pub returns-then-t-ge-THREADS : goal.returns-then-t-ge-THREADS
unfolding front_model
returns-then-t-ge-THREADS c = search cases

pub returns-then-first-lt-THREADS : goal.returns-then-first-lt-THREADS
unfolding front_model
returns-then-first-lt-THREADS c = search cases

pub returns : goal.returns
unfolding front_model
returns c = search cases
