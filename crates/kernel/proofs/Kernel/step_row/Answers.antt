-- `Kernel::step_row` meets its contract: the row is of wrong form, or its call is stepped. Assumes nothing.
use mathlib.Core.Path.{sym, ◌∙◌, subst}
use Rattle.kernel.specs.Kernels.{Steps}
use Rattle.kernel.proofs.Kernel.step_row.Goals as goal

pub returns-in_default : goal.returns-in_default
returns-in_default c =
    subst (λ d. Steps c.args.self d c.wrong_row.result) (sym (sym c.decode-decoded.ensures ∙ c.in_default.is)) c.wrong_row.ensures

pub returns : goal.returns
returns c =
    subst (λ d. Steps c.args.self d c.step.result) (sym (sym c.decode-decoded.ensures ∙ c.in-Some.is)) c.step.ensures
