-- `answer_rows` meets its contract. The invariant: going on from row i gives what the whole gives, and each line so far has at most 48 bytes.
-- Assumes nothing.
use Rattle.std.proofs.Common.{◌≡◌, ◌+◌, ◌*◌, ◌≤◌}
use Rattle.place_timers.specs.Arrays.{engine_on}
use Rattle.run_rows.proofs.Many.{rows_from}
use Rattle.run_lines.specs.Output.{at, rows_written}
use Rattle.run_lines.proofs.Turning.{lines_length}
use Rattle.run_lines.proofs.answer_rows.Given as goal

abbrev pub invariant-loop-i : goal.invariant-loop-i
invariant-loop-i l =
    (rows_written (at (engine_on l.cells l.clock l.wheel l.counts) l.made l.output) (rows_from l.i l.bytes) ≡ rows_written (at (engine_on l.initial.cells l.initial.clock l.initial.wheel l.initial.counts) l.initial.made l.initial.output) (rows_from 0 l.bytes))
    × (lines_length (engine_on l.initial.cells l.initial.clock l.initial.wheel l.initial.counts) l.initial.made.last (rows_from 0 l.bytes) ≤ 48 * l.i + lines_length (engine_on l.cells l.clock l.wheel l.counts) l.made.last (rows_from l.i l.bytes))
