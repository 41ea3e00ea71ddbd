-- `runner` is the search. The invariant: the search from t on gives what the whole search gives. Assumes nothing.
use Rattle.page_building.proofs.Turns.{searching_starts, searching_found, searching_turns, searching_ends}
use Rattle.page_building.proofs.runner.Goals as goal

pub loop-t-init : goal.loop-t-init
loop-t-init c = searching_starts _ _ _ c.min-t-end.ensures

pub returns-then-row-eq-RUNNING : goal.returns-then-row-eq-RUNNING
returns-then-row-eq-RUNNING c =
    searching_found _ _ _ _ c.loop-t.invariant c.loop-t-test.true c.if-row-eq-RUNNING.true

pub loop-t-preserved : goal.loop-t-preserved
loop-t-preserved c =
    searching_turns _ _ _ _ c.loop-t.invariant c.loop-t-test.true c.if-row-eq-RUNNING.false

pub returns : goal.returns
returns c = searching_ends _ _ _ _ c.loop-t.invariant c.loop-t-test.false
