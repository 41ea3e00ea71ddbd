-- `condition_waiters_fit` meets its contract: by its test of each thread. Assumes nothing.
use Rattle.std.proofs.Common.{rules}
use borrow.Author.Tests.{tests}
use Rattle.page.proofs.Ranges.{all_numbers}
use Rattle.sound_objects.specs.Objects.{condition_waiters_in}
use Rattle.sound_objects.proofs.condition_waiters_fit.Goals as goal

pub returns : goal.returns
unfolding condition_waiters_in
returns c = all_numbers _ _ c.all.ensures.ran (λ i b q k. search (rules, tests))
