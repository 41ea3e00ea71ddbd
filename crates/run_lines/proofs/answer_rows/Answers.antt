-- `answer_rows` meets its contract. The invariant: going on from row i gives what the whole gives, and each line so far has at most 48 bytes.
-- Assumes nothing.
use Rattle.std.proofs.Common.{◌*◌, ◌/◌, ◌^◌, ◌<◌, ◌≤◌, length, refl, ap, ◌∙◌, subst, arith, rules}
use Rattle.place_timers.specs.Arrays.{engine_on}
use Rattle.place_step.proofs.Apart.{apart}
use Rattle.run_rows.specs.Many.{rows_in, inner_answers}
use Rattle.run_rows.proofs.Many.{rows_from, row_done, begin_rows, end_rows, rows_end}
use Rattle.run_lines.specs.Output.{numbered, at, add_one, rows_written}
use Rattle.run_lines.proofs.Turning.{lines_length, line_turned, number_after, turned_short}
use Rattle.run_lines.proofs.Order.{rows_laid_lem}
use Rattle.run_lines.proofs.answer_rows.Goals as goal

pub loop-i-init : goal.loop-i-init
loop-i-init c = (refl, omega arith)

pub loop-i-preserved : goal.loop-i-preserved
loop-i-preserved c =
    let added = c.add_line-made in
    let l = c.loop-i in
    let bytes = c.args.bytes.now in
    let x = engine_on l.cells l.clock l.wheel l.counts in
    let less : l.i < length bytes / 8 = c.loop-i-test.true in
    let read = c.row_at-row.ensures in
    let done = row_done x _ _ c.step_row-done.ensures in (
      line_turned l.i bytes _ x l.made l.output _ _ _ less read done added.ensures.0 added.ensures.1 ∙ l.invariant.0,
      turned_short l.i x _ l.made.last added.result bytes _ _ _ less read done refl (number_after l.made added.result _ _ added.ensures.0) added.ensures.2 l.invariant.1,
    )

pub returns : goal.returns
unfolding numbered inner_answers
returns c =
    let fits : c.args.lines.last < 2 ^ 64 = search rules in
    let l = c.loop-i in
    let a = c.args in
    let bytes = a.bytes.now in
    let x = engine_on l.cells l.clock l.wheel l.counts in
    let begun = apart a.engine _ _ _ _ c.cells_of-cells.ensures c.clock_words-clock.ensures c.wheel_words-wheel.ensures c.counts_of-counts.ensures in
    let over = c.loop-i-test.false in
    let made = ap (λ e. at e l.made l.output) c.engine_of.ensures ∙ rows_end add_one l.i bytes _ _ over l.invariant.0
    ∙ ap (λ e. rows_written (at e a.lines a.output.now) (rows_in bytes)) begun in
    let none = end_rows l.i bytes over in
    let short : lines_length a.engine a.lines.last (rows_in bytes) ≤ 48 * l.i
    = rw (← begin_rows bytes) (subst (λ e. lines_length e a.lines.last (rows_from 0 bytes) ≤ 48 * l.i) begun (omega (arith, l.invariant.1, ap (lines_length x l.made.last) none))) in
    record { output_after = made; output_after_2 = λ room. made ∙ rows_laid_lem (rows_in bytes) a.engine a.lines a.output.now fits (omega (arith, short, room)) }
