-- `runner_sound` meets its contract: each test is asked where those before it hold. Assumes nothing.
use Rattle.std.proofs.Common.{rules}
use Rattle.sound_threads.specs.Threads.{runner_in}
use Rattle.sound_threads.proofs.runner_sound.Goals as goal

pub returns-then-runs : goal.returns-then-runs
unfolding runner_in
returns-then-runs c = search rules

pub returns-else-runs : goal.returns-else-runs
unfolding runner_in
returns-else-runs c = search rules
