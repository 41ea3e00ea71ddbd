-- `Run::feed` meets its contract: the one line of a refused run, else the lines of the rows of the kept bytes and the piece, and the rest is kept.
-- Assumes nothing.
use Prim.Native.Nat.{ℕ, ◌*◌, ◌/◌, ◌<◌}
use mathlib.Core.Path.{◌≡◌, sym, ap, ap₂, ◌∙◌, subst}
use mathlib.Core.List.{List, ◌++◌}
use native.Mathlib.Omega.{arith}
use lib.ListN.{length, take}
use borrow.Author.Rules.{rules}
use Rattle.run_rows.specs.Rows.{row_at}
use Rattle.run_lines.specs.declared.Lines.{Lines}
use Rattle.run_rows.specs.Many.{rows_in}
use Rattle.run_lines.specs.Output.{at, Room, rows_laid}
use Rattle.run_pieces.specs.Pieces.{kept_by}
use Rattle.run_pieces.proofs.Laying.{rest_kept, joined_size, joined_first}
use Rattle.run_pieces.proofs.Feeding.{refused_fed, going_fed}
use Rattle.run_pieces.proofs.Run.feed.Goals as goal

pub returns-then-self-ne0 : goal.returns-then-self-ne0
returns-then-self-ne0 c =
    let given = c.args in
    let byte : given.self.refused < 256 = search rules in
    let opened = c.open-used in
    let size : length given.output.now ≡ 65536 = search rules in
    refused_fed given.self given.output.now opened.result opened.new.output size byte opened.ensures.0 opened.ensures.1 c.if-self-ne0.true
    (take given.held given.block.now)

pub slice_bounds-row_at-end : goal.slice_bounds-row_at-end
slice_bounds-row_at-end c =
    let given = c.args in
    let join = c.join-count in
    sym (joined_size 8200 (kept_by given.self ++ take given.held given.block.now) _ join.result join.ensures.0 join.ensures.1 (omega (arith, join.ensures.2)))

pub slice_bounds-joined-end : goal.slice_bounds-joined-end
slice_bounds-joined-end c =
    let given = c.args in
    let join = c.join-count in
    omega (arith, join.ensures.2, joined_size 8200 (kept_by given.self ++ take given.held given.block.now) _ join.result join.ensures.0 join.ensures.1 (omega (arith, join.ensures.2)))

pub slice_bounds-answer_rows-end : goal.slice_bounds-answer_rows-end
slice_bounds-answer_rows-end c =
    let given = c.args in
    let join = c.join-count in
    join.ensures.0 ∙ sym (ap length (joined_first 8200 (kept_by given.self ++ take given.held given.block.now) _ join.result join.ensures.0 join.ensures.1))

pub returns : goal.returns
returns c =
    let given = c.args in
    let opened = c.open-used in
    let size : length given.output.now ≡ 65536 = search rules in
    let byte : given.self.refused < 256 = search rules in
    let join = c.join-count in
    let piece = take given.held given.block.now in
    let bytes = kept_by given.self ++ piece in
    let lines : Lines = record { last = given.self.last; used = opened.result } in
    let first = joined_first 8200 bytes _ join.result join.ensures.0 join.ensures.1 in
    let rest = c.row_at-rest.ensures ∙ ap₂ row_at join.ensures.1 (ap (λ n. n / 8 * 8) join.ensures.0) ∙ rest_kept 8200 bytes (omega (arith, join.ensures.0, join.ensures.2)) in
    let answered = c.answer_rows-answered in
    let made = at answered.result.engine answered.result.lines answered.new.output in
    let rows : Room lines bytes opened.new.output → made ≡ rows_laid given.self.engine lines (rows_in bytes) opened.new.output
    = subst (λ (b : List ℕ). Room lines b opened.new.output → made ≡ rows_laid given.self.engine lines (rows_in b) opened.new.output) first answered.ensures.output_after_2 in
    going_fed given.self given.output.now opened.result opened.new.output size byte opened.ensures.0 opened.ensures.1
    c.if-self-ne0.false piece (omega (arith, join.ensures.0, join.ensures.2)) made rows _ _ rest join.ensures.0
