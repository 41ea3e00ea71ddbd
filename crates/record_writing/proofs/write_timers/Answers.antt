-- `write_timers` meets its contract. The invariant: storing the rows that are left gives what storing all of them gives. Assumes nothing.
use Prim.Native.Nat.{◌+◌, ◌*◌}
use mathlib.Core.Path.{refl, sym, ap, ◌∙◌}
use lib.Seq.{sets}
use Rattle.record_bytes.specs.Record.{timer_bytes}
use Rattle.page.specs.Says.{timer_said}
use Rattle.record_writing.specs.Tables.{timer_row}
use Rattle.record_writing.proofs.Stores.{turn, at_first, at_last}
use Rattle.record_writing.proofs.write_timers.Goals as goal

pub loop-i-init : goal.loop-i-init
loop-i-init c = let a = c.args in at_first (timer_row a.rows) 8 a.buffer.now a.at a.count

pub loop-i-preserved : goal.loop-i-preserved
loop-i-preserved c =
    let l = c.loop-i in
    let a = c.args in
    let e = c.put_timer.ensures ∙ ap (λ r. sets l.buffer (a.at + 8 * l.i) (timer_bytes (timer_said r))) c.timer_row-row.ensures in
    turn (timer_row a.rows) 8 (λ i. refl) l.buffer _ a.at a.count l.i c.loop-i-test.true e ∙ l.invariant

pub returns : goal.returns
returns c =
    let l = c.loop-i in
    let a = c.args in
    sym (at_last (timer_row a.rows) l.buffer (a.at + 8 * l.i) a.count l.i c.loop-i-test.false) ∙ l.invariant
