-- `Kernel::boot` meets its contract by the engine's. Assumes nothing.
use Rattle.kernel.proofs.Kernel.boot.Goals as goal

pub returns : goal.returns
returns c = λ i. record { engine = c.boot-engine.ensures i }
