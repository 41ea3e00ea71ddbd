-- `refuse` meets its contract: field by field. Assumes nothing.
use Rattle.place_calls.proofs.refuse.Goals as goal

pub returns : goal.returns
returns c = λ i. record { number = c.number-n.ensures i; given = 255; running = c.running_at-running.ensures i }
