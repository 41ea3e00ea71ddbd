-- `write_ties` meets its contract. The invariant: storing the rows that are left gives what storing all of them gives. Assumes nothing.
use Prim.Native.Nat.{◌+◌, ◌-◌, ◌*◌}
use mathlib.Core.Path.{◌≡◌}
use lib.Seq.{sets}
use Rattle.record_writing.specs.Tables.{table_from, tie_row}
use Rattle.record_writing.proofs.write_ties.Given as goal

abbrev pub invariant-loop-c : goal.invariant-loop-c
invariant-loop-c l = sets l.buffer (l.at + 4 * l.c) (table_from (tie_row l.ties) (l.count - l.c) l.c) ≡ sets l.initial.buffer l.at (table_from (tie_row l.ties) l.count 0)
