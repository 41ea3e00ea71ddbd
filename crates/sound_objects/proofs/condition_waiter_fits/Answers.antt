-- `condition_waiter_fits` meets its contract: each test is asked where those before it hold. Assumes nothing.
use Rattle.std.proofs.Common.{rules}
use Rattle.rules.specs.Page.{where_of}
use Rattle.sound_objects.specs.Objects.{condition_waiter_fits}
use Rattle.sound_objects.proofs.condition_waiter_fits.Goals as goal

pub returns-then-not-stands : goal.returns-then-not-stands
unfolding condition_waiter_fits where_of
returns-then-not-stands c = search rules

pub returns-then-owns_nothing : goal.returns-then-owns_nothing
unfolding condition_waiter_fits where_of
returns-then-owns_nothing c = search rules

pub returns-else-owns_nothing : goal.returns-else-owns_nothing
unfolding condition_waiter_fits where_of
returns-else-owns_nothing c = search rules
