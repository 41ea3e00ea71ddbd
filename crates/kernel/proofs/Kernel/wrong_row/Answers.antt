-- `Kernel::wrong_row` meets its contract: refused, or the engine's 17. Assumes nothing.
use Rattle.std.specs.Prelude.{None}
use mathlib.Core.Path.{refl}
use Rattle.kernel.proofs.Promised.{unsound_steps, sound_steps}
use Rattle.kernel.proofs.Kernel.wrong_row.Goals as goal

pub returns-then-not-sound : goal.returns-then-not-sound
returns-then-not-sound c =
    unsound_steps c.args.self c.is_sound-sound.ensures None _ c.if-not-sound.true c.refused.ensures

pub returns : goal.returns
returns c =
    sound_steps c.args.self c.is_sound-sound.ensures None c.wrong_row-stepped.result _ c.if-not-sound.false c.wrong_row-stepped.ensures.means refl
