-- `Links::back` does what its definition says. Assumes nothing.
use Rattle.queue.proofs.Cases.{cases}
use Rattle.queue.specs.Linking.{back_model}
use Rattle.queue.proofs.Links.back.Goals as goal

pub returns-then-t-ge-THREADS : goal.returns-then-t-ge-THREADS
unfolding back_model
returns-then-t-ge-THREADS c = search cases

pub returns-then-last-lt-THREADS : goal.returns-then-last-lt-THREADS
unfolding back_model
returns-then-last-lt-THREADS c = search cases

pub returns : goal.returns
unfolding back_model
returns c = search cases
