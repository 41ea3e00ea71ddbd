-- `Kernel::step` meets its contract: refused, or the engine's step. Assumes nothing.
use Rattle.std.specs.Prelude.{Some}
use mathlib.Core.Path.{refl}
use Rattle.rules.specs.Step.{step_decoded}
use Rattle.kernel.proofs.Promised.{unsound_steps, sound_steps}
use Rattle.kernel.proofs.Kernel.step.Goals as goal

pub returns-then-not-right : goal.returns-then-not-right
returns-then-not-right c =
    unsound_steps c.args.self c.is_sound-right.ensures (Some c.args.call) _ c.if-not-right.true c.refused.ensures

pub returns : goal.returns
unfolding step_decoded
returns c =
    sound_steps c.args.self c.is_sound-right.ensures (Some c.args.call) c.step-stepped.result _ c.if-not-right.false c.step-stepped.ensures.means refl
