-- `owner_fits` meets its contract: each test is asked where those before it hold. Assumes nothing.
use Rattle.std.proofs.Common.{rules}
use Rattle.rules.specs.Page.{where_of}
use Rattle.sound_objects.specs.Objects.{owner_fits}
use Rattle.sound_objects.proofs.owner_fits.Goals as goal

pub returns-then-row-eq0 : goal.returns-then-row-eq0
unfolding owner_fits where_of
returns-then-row-eq0 c = search rules

pub returns-else-row-eq0 : goal.returns-else-row-eq0
unfolding owner_fits where_of
returns-else-row-eq0 c = search rules

pub returns-then-counted : goal.returns-then-counted
unfolding owner_fits where_of
returns-then-counted c = search rules

pub returns-else-counted : goal.returns-else-counted
unfolding owner_fits where_of
returns-else-counted c = search rules
