-- `runner_fits` meets its contract: by its test. Assumes nothing.
use Rattle.sound_threads.proofs.runner_fits.Goals as goal

pub returns-then-started : goal.returns-then-started
returns-then-started c = rw c.if-started.true

pub returns : goal.returns
returns c = rw c.if-started.false
