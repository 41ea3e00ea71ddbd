-- `put_number` meets its contract. The invariant: the digits that are left, put in front, give what the whole gives. The measure is the rest. Assumes nothing.
use mathlib.Core.Path.{sym, ◌∙◌}
use native.Mathlib.Omega.{arith}
use Rattle.run_text.proofs.Putting.{number_on, number_ends}
use Rattle.run_text.proofs.put_number.Goals as goal

pub loop-rest-preserved : goal.loop-rest-preserved
loop-rest-preserved c =
    let l = c.loop-rest in
    rw (c.put-made.ensures, c.digit.ensures) (sym (number_on l.made l.rest (omega arith)) ∙ l.invariant)

pub returns : goal.returns
returns c =
    let l = c.loop-rest in
    rw (c.put.ensures, c.digit-2.ensures) (sym (number_ends l.made l.rest (omega arith)) ∙ l.invariant)
