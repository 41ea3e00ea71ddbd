-- `object_codes_sound` meets its contract: by its test of each thread. Assumes nothing.
use Rattle.std.proofs.Common.{rules}
use borrow.Author.Tests.{tests}
use Rattle.page.proofs.Ranges.{all_numbers}
use Rattle.sound_threads.specs.Threads.{object_codes_in}
use Rattle.sound_threads.proofs.object_codes_sound.Goals as goal

pub returns : goal.returns
unfolding object_codes_in
returns c = all_numbers _ _ c.all.ensures.ran (λ t b q k. search (rules, tests))
