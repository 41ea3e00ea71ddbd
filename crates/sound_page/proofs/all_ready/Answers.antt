-- `all_ready` meets its contract: by its test of each thread. Assumes nothing.
use Rattle.std.proofs.Common.{rules}
use borrow.Author.Tests.{tests}
use Rattle.page.proofs.Ranges.{all_numbers}
use Rattle.rules.specs.Page.{where_of}
use Rattle.sound_page.specs.WholePage.{all_ready_in}
use Rattle.sound_page.proofs.all_ready.Goals as goal

pub returns : goal.returns
unfolding all_ready_in where_of
returns c = all_numbers _ _ c.all.ensures.ran (λ i b q k. search (rules, tests))
