-- `no_timer_runs` meets its contract: by its test of each timer. Assumes nothing.
use Rattle.std.proofs.Common.{rules}
use borrow.Author.Tests.{tests}
use Rattle.page.proofs.Ranges.{all_numbers}
use Rattle.sound_page.specs.WholePage.{no_timer_runs_in}
use Rattle.sound_page.proofs.no_timer_runs.Goals as goal

pub returns : goal.returns
unfolding no_timer_runs_in
returns c = all_numbers _ _ c.all.ensures.ran (λ i b q k. search (rules, tests))
