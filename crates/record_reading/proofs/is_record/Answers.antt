-- `is_record` meets its contract: the length decides, or the bytes. Assumes nothing.
use Prim.Native.Nat.{◌<◌, ◌≤◌}
use mathlib.Core.Path.{sym, ap, ◌∙◌, subst}
use Rattle.record_bytes.specs.Record.{record_of}
use Rattle.page.specs.Says.{said}
use Rattle.record_reading.specs.Rows.{agree}
use Rattle.record_reading.proofs.Forms.{too_long_lem, other_length, bytes_decide}
use Rattle.record_reading.proofs.is_record.Goals as goal

pub returns-then-length-gt-LONGEST_RECORD : goal.returns-then-length-gt-LONGEST_RECORD
returns-then-length-gt-LONGEST_RECORD c =
    let a = c.args in
    too_long_lem a.bytes.now (record_of (said a.page)) (subst (λ n. 536 < n) c.total-length.ensures c.if-length-gt-LONGEST_RECORD.true)

pub returns-then-bytes-length : goal.returns-then-bytes-length
returns-then-bytes-length c =
    let a = c.args in
    other_length a.bytes.now (record_of (said a.page)) (λ e. c.if-bytes-length.true (e ∙ sym c.total-length.ensures))

pub returns : goal.returns
returns c =
    let n = c.total-length.ensures in
    let a = c.args in
    bytes_decide a.bytes.now (record_of (said a.page)) _ _
    (subst (λ k. k ≤ 536) n c.if-length-gt-LONGEST_RECORD.false)
    (c.if-bytes-length.false ∙ n)
    c.write.ensures
    (c.agree_first.ensures ∙ ap (λ k. agree k a.bytes.now c.write.new.buffer) n)
