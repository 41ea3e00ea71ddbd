-- `wait_for` meets its contract, by `waits_for`. Assumes nothing.
use mathlib.Core.Path.{refl}
use Rattle.place_queues.proofs.Waits.{waits_for}
use Rattle.place_queues.proofs.wait_for.Goals as goal

pub returns : goal.returns
returns c =
    rw c.stand.ensures (waits_for _ _ _ _ (rw (c.join.ensures, c.thread_at-row.ensures) refl))
