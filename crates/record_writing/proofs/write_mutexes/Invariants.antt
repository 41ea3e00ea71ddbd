-- `write_mutexes` meets its contract. The invariant: storing the rows that are left gives what storing all of them gives. Assumes nothing.
use Prim.Native.Nat.{◌+◌, ◌-◌, ◌*◌}
use mathlib.Core.Path.{◌≡◌}
use lib.Seq.{sets}
use Rattle.record_writing.specs.Tables.{table_from, mutex_row}
use Rattle.record_writing.proofs.write_mutexes.Given as goal

abbrev pub invariant-loop-m : goal.invariant-loop-m
invariant-loop-m l = sets l.buffer (l.at + 4 * l.m) (table_from (mutex_row l.rows) (l.count - l.m) l.m) ≡ sets l.initial.buffer l.at (table_from (mutex_row l.rows) l.count 0)
