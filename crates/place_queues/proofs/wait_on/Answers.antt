-- `wait_on` meets its contract, by `waits_on`. Assumes nothing.
use mathlib.Core.Path.{refl}
use Rattle.place_queues.proofs.Waits.{waits_on}
use Rattle.place_queues.proofs.wait_on.Goals as goal

pub returns : goal.returns
returns c =
    rw c.stand.ensures (waits_on _ _ _ _ (rw (c.join.ensures, c.thread_at-row.ensures) refl))
