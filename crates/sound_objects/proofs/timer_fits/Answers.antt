-- `timer_fits` meets its contract: by its test, and each call by its own. Assumes nothing.
use Rattle.std.proofs.Common.{rules}
use Rattle.sound_objects.proofs.Timing.{timer_stopped_lem, timer_runs}
use Rattle.sound_objects.proofs.timer_fits.Goals as goal

pub returns-then-row-eq0 : goal.returns-then-row-eq0
returns-then-row-eq0 c = let stopped = timer_stopped_lem c.args.conditions c.args.row c.if-row-eq-STOPPED.true in search rules

pub returns-else-row-eq0 : goal.returns-else-row-eq0
returns-else-row-eq0 c = let stopped = timer_stopped_lem c.args.conditions c.args.row c.if-row-eq-STOPPED.true in search rules

pub returns-then-row-conditions : goal.returns-then-row-conditions
returns-then-row-conditions c = let runs = timer_runs c.args.conditions c.args.row c.if-row-eq-STOPPED.false in search rules

pub returns-else-row-conditions : goal.returns-else-row-conditions
returns-else-row-conditions c = let runs = timer_runs c.args.conditions c.args.row c.if-row-eq-STOPPED.false in search rules
