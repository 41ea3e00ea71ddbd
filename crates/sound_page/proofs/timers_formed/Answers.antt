-- `timers_formed` meets its contract: by its test of each timer. Assumes nothing.
use Rattle.std.proofs.Common.{rules}
use borrow.Author.Tests.{tests}
use Rattle.page.proofs.Ranges.{all_numbers}
use Rattle.sound_page.specs.WholePage.{timers_formed_in}
use Rattle.sound_page.proofs.timers_formed.Goals as goal

pub returns : goal.returns
unfolding timers_formed_in
returns c = all_numbers _ _ c.all.ensures.ran (λ i b q k. search (rules, tests))
