-- `cut` meets its contract: no line, or that of a row that is cut short. Assumes nothing.
use mathlib.Core.Path.{refl, ap, ◌∙◌}
use native.Mathlib.Omega.{arith}
use lib.ListN.{length-append}
use borrow.Author.Tests.{eq-eqb, ne_eqb}
use Rattle.run_lines.specs.Output.{numbered, add_line, added_to}
use Rattle.run_pieces.specs.Pieces.{cut_of}
use Rattle.run_pieces.proofs.cut.Goals as goal

pub returns-then-count-eq0 : goal.returns-then-count-eq0
unfolding cut_of numbered
returns-then-count-eq0 c = rw (eq-eqb _ _ c.if-count-eq0.true) (refl, refl, omega arith)

pub returns : goal.returns
unfolding cut_of numbered
returns c =
    let given = c.args in
    let row = c.wrong_row-answer.ensures.always in
    let added = c.add_line.ensures in
    let short = rw row at added.2 in
    rw (ne_eqb _ _ c.if-count-eq0.false)
    (added.0 ∙ ap (λ a. add_line given.lines a given.output.now) row, added.1 ∙ ap (λ a. added_to given.lines a given.output.now) row, simp length-append (omega (arith, short)))
