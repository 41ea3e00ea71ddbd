-- `acquire` meets its contract, by `acquire_again`, `acquire_free` and `acquire_waits`. Assumes nothing.
use Rattle.place_effects.proofs.Calls.{acquire_again, acquire_free, acquire_waits}
use Rattle.place_effects.proofs.acquire.Goals as goal

pub returns-then-row-caller : goal.returns-then-row-caller
returns-then-row-caller c =
    rw c.recount.ensures (acquire_again _ _ _ _ c.mutex_at-row.ensures c.running_at-caller.ensures c.if-row-caller.true)

pub returns-then-row : goal.returns-then-row
returns-then-row c =
    rw c.own.ensures (acquire_free _ _ _ _ c.mutex_at-row.ensures c.running_at-caller.ensures c.if-row-caller.false c.if-row.true)

pub returns : goal.returns
returns c =
    rw c.wait_for.ensures (acquire_waits _ _ _ _ c.mutex_at-row.ensures c.running_at-caller.ensures c.if-row-caller.false c.if-row.false)
