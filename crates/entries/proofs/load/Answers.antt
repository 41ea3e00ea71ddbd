-- `load` meets its contract: by its test. Assumes nothing.
use mathlib.Core.Path.{sym}
use lib.ListN.{get_or-eq_default}
use Rattle.entries.proofs.load.Goals as goal

pub returns-else-at-list : goal.returns-else-at-list
returns-else-at-list g c = sym (get_or-eq_default c.args.list.now c.args.none c.if-at-list.false)
