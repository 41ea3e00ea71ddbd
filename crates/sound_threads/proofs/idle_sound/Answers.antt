-- `idle_sound` meets its contract: each test is asked where those before it hold. Assumes nothing.
use Rattle.std.proofs.Common.{rules}
use Rattle.sound_threads.specs.Threads.{idle_in}
use Rattle.sound_threads.proofs.Waiting.{idle_kind}
use Rattle.sound_threads.proofs.idle_sound.Goals as goal

pub returns-then-active : goal.returns-then-active
unfolding idle_in
returns-then-active c = search (rules, idle_kind)

pub returns-else-active : goal.returns-else-active
unfolding idle_in
returns-else-active c = search (rules, idle_kind)
