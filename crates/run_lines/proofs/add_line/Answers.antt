-- `add_line` meets its contract: the text is that of the line, and it is laid after the used part. Assumes nothing.
use Rattle.run_lines.proofs.Turning.{line_added}
use Rattle.run_lines.proofs.add_line.Goals as goal

pub shape_of-output : goal.shape_of-output
shape_of-output c = c.collect-used.auto.output

pub returns : goal.returns
returns c =
    let last = c.wrapping_add_u64-last.ensures.value in
    let line = c.line-text.ensures in
    let laid = c.collect-used.ensures in
    let added = line_added c.args.lines c.args.answer c.args.output.now _ _ _ _ last line.0 laid.0 laid.1 in
    (added.0, added.1, rw last at line.1)
