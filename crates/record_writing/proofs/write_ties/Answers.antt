-- `write_ties` meets its contract. The invariant: storing the rows that are left gives what storing all of them gives. Assumes nothing.
use Prim.Native.Nat.{◌+◌, ◌*◌}
use mathlib.Core.Path.{refl, sym, ap, ◌∙◌}
use lib.Seq.{sets}
use Rattle.record_bytes.specs.Record.{tie_bytes}
use Rattle.record_writing.specs.Tables.{tie_row}
use Rattle.record_writing.proofs.Stores.{turn, at_first, at_last}
use Rattle.record_writing.proofs.write_ties.Goals as goal

pub loop-c-init : goal.loop-c-init
loop-c-init c = let a = c.args in at_first (tie_row a.ties) 4 a.buffer.now a.at a.count

pub loop-c-preserved : goal.loop-c-preserved
loop-c-preserved c =
    let l = c.loop-c in
    let a = c.args in
    let e = c.put_four.ensures ∙ ap (λ r. sets l.buffer (a.at + 4 * l.c) (tie_bytes r)) c.tie_row-tie.ensures in
    turn (tie_row a.ties) 4 (λ i. refl) l.buffer _ a.at a.count l.c c.loop-c-test.true e ∙ l.invariant

pub returns : goal.returns
returns c =
    let l = c.loop-c in
    let a = c.args in
    sym (at_last (tie_row a.ties) l.buffer (a.at + 4 * l.c) a.count l.c c.loop-c-test.false) ∙ l.invariant
