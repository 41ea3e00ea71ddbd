-- `step_row` meets its contract: by the form of the row, and each call by its own. Assumes nothing.
use Rattle.place_step.specs.Turning.{decoded_model}
use Rattle.place_step.proofs.step_row.Goals as goal

pub returns-in_default : goal.returns-in_default
unfolding decoded_model
returns-in_default c =
    rw (c.with_answer.ensures, ← c.decode-decoded.ensures, c.in_default.is, c.refuse-answer.ensures)

pub returns : goal.returns
unfolding decoded_model
returns c =
    rw (← c.decode-decoded.ensures, c.in-Some.is) c.step.ensures
