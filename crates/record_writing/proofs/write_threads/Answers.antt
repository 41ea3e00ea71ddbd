-- `write_threads` meets its contract. The invariant: storing the rows that are left gives what storing all of them gives. Assumes nothing.
use Prim.Native.Nat.{◌+◌, ◌*◌}
use mathlib.Core.Path.{refl, sym, ap, ◌∙◌}
use lib.Seq.{sets}
use Rattle.record_bytes.specs.Record.{thread_bytes}
use Rattle.page.specs.Says.{thread_said}
use Rattle.record_writing.specs.Tables.{thread_row}
use Rattle.record_writing.proofs.Stores.{turn, at_first, at_last}
use Rattle.record_writing.proofs.write_threads.Goals as goal

pub loop-t-init : goal.loop-t-init
loop-t-init c = let a = c.args in at_first (thread_row a.rows) 4 a.buffer.now a.at a.count

pub loop-t-preserved : goal.loop-t-preserved
loop-t-preserved c =
    let l = c.loop-t in
    let a = c.args in
    let e = c.put_four.ensures ∙ ap (λ r. sets l.buffer (a.at + 4 * l.t) (thread_bytes (thread_said r))) c.thread_row-row.ensures in
    turn (thread_row a.rows) 4 (λ i. refl) l.buffer _ a.at a.count l.t c.loop-t-test.true e ∙ l.invariant

pub returns : goal.returns
returns c =
    let l = c.loop-t in
    let a = c.args in
    sym (at_last (thread_row a.rows) l.buffer (a.at + 4 * l.t) a.count l.t c.loop-t-test.false) ∙ l.invariant
