-- `write_timers` meets its contract. The invariant: storing the rows that are left gives what storing all of them gives. Assumes nothing.
use Prim.Native.Nat.{◌+◌, ◌-◌, ◌*◌}
use mathlib.Core.Path.{◌≡◌}
use lib.Seq.{sets}
use Rattle.record_writing.specs.Tables.{table_from, timer_row}
use Rattle.record_writing.proofs.write_timers.Given as goal

abbrev pub invariant-loop-i : goal.invariant-loop-i
invariant-loop-i l = sets l.buffer (l.at + 8 * l.i) (table_from (timer_row l.rows) (l.count - l.i) l.i) ≡ sets l.initial.buffer l.at (table_from (timer_row l.rows) l.count 0)
