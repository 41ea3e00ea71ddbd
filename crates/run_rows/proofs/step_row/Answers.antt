-- `step_row` meets its contract: by what the row is taken apart to, and the laws that carry the model to document 01. Assumes nothing.
use mathlib.Core.Path.{sym, ◌∙◌}
use Rattle.run_rows.proofs.Meaning.{wrong_promise, taken_promise}
use Rattle.run_rows.proofs.step_row.Goals as goal

pub returns-in_default : goal.returns-in_default
returns-in_default c =
    let x = c.args.engine in
    let p = wrong_promise x c.args.row _ (sym c.decode-decoded.ensures ∙ c.in_default.is) (λ i. record { engine = x; answer = c.wrong_row-answer.ensures.always i }) in
    record { always = p.0; means = p.1 }

pub returns : goal.returns
returns c =
    let p = taken_promise c.args.engine c.args.row _ (sym c.decode-decoded.ensures ∙ c.in-Some.is) (c.step.ensures.always, c.step.ensures.means) in
    record { always = p.0; means = p.1 }
