-- `mutex_waiter_fits` meets its contract: each test is asked where those before it hold. Assumes nothing.
use Rattle.std.proofs.Common.{rules}
use Rattle.rules.specs.Page.{where_of}
use Rattle.sound_objects.specs.Objects.{mutex_waiter_fits}
use Rattle.sound_objects.proofs.mutex_waiter_fits.Goals as goal

pub returns : goal.returns
unfolding mutex_waiter_fits where_of
returns c = search rules
