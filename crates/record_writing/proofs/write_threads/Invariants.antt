-- `write_threads` meets its contract. The invariant: storing the rows that are left gives what storing all of them gives. Assumes nothing.
use Prim.Native.Nat.{◌+◌, ◌-◌, ◌*◌}
use mathlib.Core.Path.{◌≡◌}
use lib.Seq.{sets}
use Rattle.record_writing.specs.Tables.{table_from, thread_row}
use Rattle.record_writing.proofs.write_threads.Given as goal

abbrev pub invariant-loop-t : goal.invariant-loop-t
invariant-loop-t l = sets l.buffer (l.at + 4 * l.t) (table_from (thread_row l.rows) (l.count - l.t) l.t) ≡ sets l.initial.buffer l.at (table_from (thread_row l.rows) l.count 0)
