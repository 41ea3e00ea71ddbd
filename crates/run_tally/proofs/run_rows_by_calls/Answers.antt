-- `run_rows_by_calls` meets its contract: boot is sound. Assumes nothing.
use Rattle.std.proofs.Common.{ap}
use Rattle.rules.specs.State.{boot}
use Rattle.rules_soundness.proofs.Kept.{boot_is_sound}
use Rattle.kernel.specs.declared.Kernel.{Kernel}
use Rattle.run_tally.proofs.run_rows_by_calls.Goals as goal

pub returns : goal.returns
returns c =
    let booted = c.boot-kernel.ensures in
    c.sum_by.ensures (boot, boot_is_sound, booted) (ap (λ (k : Kernel). record { engine = k.engine; made = 0 }) booted)
