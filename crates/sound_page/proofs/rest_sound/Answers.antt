-- `rest_sound` meets its contract: each test is asked where those before it hold. Assumes nothing.
use Rattle.std.proofs.Common.{rules}
use Rattle.sound_page.specs.WholePage.{rest_in}
use Rattle.sound_page.proofs.rest_sound.Goals as goal

pub returns-then-started : goal.returns-then-started
unfolding rest_in
returns-then-started c = rw c.if-started.true

pub returns-then-no_timer_runs : goal.returns-then-no_timer_runs
unfolding rest_in
returns-then-no_timer_runs c = search rules

pub returns-else-no_timer_runs : goal.returns-else-no_timer_runs
unfolding rest_in
returns-else-no_timer_runs c = search rules
