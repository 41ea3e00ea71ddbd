-- `word_at` meets its contract: two bytes, low byte first. Assumes nothing.
use Prim.Native.Nat.{suc, ◌+◌, ◌*◌}
use mathlib.Core.Path.{◌≡◌, ap, ap₂, ◌∙◌}
use native.Mathlib.Omega.{arith}
use Rattle.record_bytes.specs.Record.{byte}
use Rattle.record_reading.proofs.word_at.Goals as goal

pub returns : goal.returns
returns c =
    let a = c.args in
    let next : a.at + 1 ≡ suc a.at = omega arith in
    ap₂ (λ low high. low + 256 * high) c.byte_at-low.ensures (c.byte_at-high.ensures ∙ ap (byte a.bytes.now) next)
