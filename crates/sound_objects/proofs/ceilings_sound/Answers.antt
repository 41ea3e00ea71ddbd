-- `ceilings_sound` meets its contract: by its test of each mutex. Assumes nothing.
use Rattle.std.proofs.Common.{rules}
use borrow.Author.Tests.{tests}
use Rattle.page.proofs.Ranges.{all_numbers}
use Rattle.sound_objects.specs.Objects.{ceilings_in}
use Rattle.sound_objects.proofs.ceilings_sound.Goals as goal

pub returns : goal.returns
unfolding ceilings_in
returns c = all_numbers _ _ c.all.ensures.ran (λ i b q k. search (rules, tests))
