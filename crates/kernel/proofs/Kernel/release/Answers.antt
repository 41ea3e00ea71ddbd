-- `Kernel::release` meets its contract by that of the step. Assumes nothing.
use Rattle.kernel.proofs.Kernel.release.Goals as goal

pub returns : goal.returns
returns c = c.step.ensures
