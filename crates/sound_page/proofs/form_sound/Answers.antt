-- `form_sound` meets its contract: the second test is asked where the first holds. Assumes nothing.
use Rattle.std.proofs.Common.{rules}
use Rattle.sound_page.specs.WholePage.{form_in}
use Rattle.sound_page.proofs.form_sound.Goals as goal

pub returns-then-threads_formed : goal.returns-then-threads_formed
unfolding form_in
returns-then-threads_formed c = search rules

pub returns-else-threads_formed : goal.returns-else-threads_formed
unfolding form_in
returns-else-threads_formed c = search rules
