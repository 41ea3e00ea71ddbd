-- `agree_first` meets its contract: by its test of each byte. Assumes nothing.
use Rattle.std.proofs.Common.{rules}
use borrow.Author.Tests.{tests}
use Rattle.page.proofs.Ranges.{all_numbers}
use Rattle.record_reading.proofs.agree_first.Goals as goal

pub returns : goal.returns
returns c = all_numbers _ _ c.all.ensures.ran (λ i b q k. search (rules, tests))
