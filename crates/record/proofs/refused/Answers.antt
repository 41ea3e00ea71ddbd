-- `refused` meets its contract by boot's. Assumes nothing.
use Rattle.record.proofs.refused.Goals as goal

pub returns : goal.returns
returns c = λ i. record { answer = c.number.ensures i; kernel = c.boot-kernel.ensures i }
