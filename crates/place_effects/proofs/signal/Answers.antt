-- `signal` meets its contract, by the laws of `Joins` and `Waits` and `Calls`. Assumes nothing.
use mathlib.Core.Path.{ap, ◌∙◌}
use borrow.Author.Tests.{le-leb, lt-leb}
use Rattle.value_tables.specs.Tables.{head_model}
use Rattle.value_effects.specs.Effects.{leave_condition_model}
use Rattle.place_tables.specs.Cells.{scheduler_in}
use Rattle.place_queues.proofs.Joins.{on_condition_lem}
use Rattle.place_queues.proofs.Waits.{leaves_condition}
use Rattle.place_effects.proofs.Calls.{signals_none, signals_one}
use Rattle.place_effects.proofs.signal.Goals as goal
use Rattle.place_effects.proofs.signal.Goals.{then-best-ge-PRIORITIES, else-best-ge-PRIORITIES}

pub returns-then-first-ge-PRIORITIES : goal.returns-then-first-ge-PRIORITIES
returns-then-first-ge-PRIORITIES c = signals_none _ _ _ (c.head-first.ensures ∙ ap head_model (on_condition_lem _ _)) c.if-first-ge-PRIORITIES.true

pub returns : goal.returns
unfolding leave_condition_model
returns c =
    rw c.wake.ensures (signals_one _ _ _ (c.head-first.ensures ∙ ap head_model (on_condition_lem _ _)) c.if-first-ge-PRIORITIES.false _ _ _ _ (c.depart.ensures ∙ leaves_condition _ _ _) c.highest_at-best.ensures c.tie_at-m.ensures (elim c.if-best-ge-PRIORITIES.branch [ then-best-ge-PRIORITIES w ↦ rw (le-leb _ _ w.if-best-ge-PRIORITIES.true) (ap scheduler_in w.cells-is ∙ w.put_tie.ensures) | else-best-ge-PRIORITIES w ↦ rw (lt-leb _ _ w.if-best-ge-PRIORITIES.false) (ap scheduler_in w.cells-is) ]))
