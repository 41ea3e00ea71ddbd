-- What is judged of an engine is one thing.
-- Assumes nothing.
use Rattle.std.specs.Prelude.{Result}
use Rattle.std.proofs.Common.{Ok, Err}
use mathlib.Core.Path.{◌≡◌, refl, sym, ap, ◌∙◌}
use mathlib.Core.Bool.{false≢true}
use Rattle.value_engine.specs.declared.Engine.{Engine}
use Rattle.page.specs.declared.Page.{Page}
use Rattle.sound_engine.specs.Rebuilding.{Judges}

-- any two results that the promise allows are equal
pub judges_once : (x : Engine) (r q : Result Page Page) → Judges x r → Judges x q → r ≡ q
judges_once x (Ok p) (Ok s) m n = ap Ok (m.ok ∙ sym n.ok)
judges_once x (Ok p) (Err s) m n = absurd (false≢true (n.sound.1 (m.sound.0 refl)))
judges_once x (Err p) (Ok s) m n = absurd (false≢true (m.sound.1 (n.sound.0 refl)))
judges_once x (Err p) (Err s) m n = ap Err (m.err ∙ sym n.err)
