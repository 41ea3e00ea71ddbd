-- `write_mutexes` meets its contract. The invariant: storing the rows that are left gives what storing all of them gives. Assumes nothing.
use Prim.Native.Nat.{◌+◌, ◌*◌}
use mathlib.Core.Path.{refl, sym, ap, ◌∙◌}
use lib.Seq.{sets}
use Rattle.record_bytes.specs.Record.{mutex_bytes}
use Rattle.page.specs.Says.{mutex_said}
use Rattle.record_writing.specs.Tables.{mutex_row}
use Rattle.record_writing.proofs.Stores.{turn, at_first, at_last}
use Rattle.record_writing.proofs.write_mutexes.Goals as goal

pub loop-m-init : goal.loop-m-init
loop-m-init c = let a = c.args in at_first (mutex_row a.rows) 4 a.buffer.now a.at a.count

pub loop-m-preserved : goal.loop-m-preserved
loop-m-preserved c =
    let l = c.loop-m in
    let a = c.args in
    let e = c.put_four.ensures ∙ ap (λ r. sets l.buffer (a.at + 4 * l.m) (mutex_bytes (mutex_said r))) c.mutex_row-row.ensures in
    turn (mutex_row a.rows) 4 (λ i. refl) l.buffer _ a.at a.count l.m c.loop-m-test.true e ∙ l.invariant

pub returns : goal.returns
returns c =
    let l = c.loop-m in
    let a = c.args in
    sym (at_last (mutex_row a.rows) l.buffer (a.at + 4 * l.m) a.count l.m c.loop-m-test.false) ∙ l.invariant
