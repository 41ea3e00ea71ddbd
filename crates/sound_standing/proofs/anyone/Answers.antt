-- `anyone` meets its contract: by its test of each thread. Assumes nothing.
use Rattle.std.proofs.Common.{rules}
use borrow.Author.Tests.{tests}
use Rattle.page.proofs.Ranges.{any_numbers}
use Rattle.sound_standing.specs.Standing.{nobody_in}
use Rattle.sound_standing.proofs.anyone.Goals as goal

pub returns : goal.returns
unfolding nobody_in
returns c = any_numbers _ _ c.any.ensures.ran (λ t b q k. search (rules, tests))
