-- `owns_nothing` meets its contract: by its test of each mutex. Assumes nothing.
use Rattle.std.proofs.Common.{rules}
use borrow.Author.Tests.{tests}
use Rattle.page.proofs.Ranges.{all_numbers}
use Rattle.sound_standing.specs.Standing.{owns_nothing_in}
use Rattle.sound_standing.proofs.owns_nothing.Goals as goal

pub returns : goal.returns
unfolding owns_nothing_in
returns c = all_numbers _ _ c.all.ensures.ran (λ m b q k. search (rules, tests))
