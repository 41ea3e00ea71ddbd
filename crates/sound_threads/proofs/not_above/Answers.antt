-- `not_above` meets its contract: each test is asked where those before it hold. Assumes nothing.
use Rattle.std.proofs.Common.{rules}
use Rattle.rules.specs.Page.{where_of}
use Rattle.sound_threads.specs.Threads.{not_above}
use Rattle.sound_threads.proofs.not_above.Goals as goal

pub returns : goal.returns
unfolding not_above where_of
returns c = search rules
