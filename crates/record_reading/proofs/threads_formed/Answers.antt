-- `threads_formed` meets its contract: by its test of each row. Assumes nothing.
use mathlib.Core.Path.{sym, ◌∙◌}
use Rattle.std.proofs.Common.{rules}
use borrow.Author.Tests.{tests}
use Rattle.page.proofs.Ranges.{all_numbers, rows_each_lem}
use Rattle.record_reading.proofs.threads_formed.Goals as goal

pub returns : goal.returns
returns c = all_numbers _ _ c.all.ensures.ran (λ i b q k. search (rules, tests)) ∙ sym (rows_each_lem _ c.args.n _)
