-- `runs_sound` meets its contract: by its test of each thread. Assumes nothing.
use Rattle.std.proofs.Common.{rules}
use borrow.Author.Tests.{tests}
use Rattle.page.proofs.Ranges.{all_numbers}
use Rattle.sound_threads.specs.Threads.{runs_in}
use Rattle.sound_threads.proofs.runs_sound.Goals as goal

pub returns : goal.returns
unfolding runs_in
returns c = all_numbers _ _ c.all.ensures.ran (λ t b q k. search (rules, tests))
