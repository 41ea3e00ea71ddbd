-- `write_header` meets its contract: six pairs of words, one after the other. Assumes nothing.
use mathlib.Core.Path.{ap, ◌∙◌}
use mathlib.Core.List.{◌++◌}
use Prim.Native.Nat.{ℕ}
use lib.Seq.{sets}
use Rattle.record_bytes.specs.Record.{word}
use Rattle.record_writing.specs.Tables.{header_for}
use Rattle.record_writing.proofs.Whole.{as_bit, header_stored}
use Rattle.record_writing.proofs.write_header.Goals as goal

pub returns : goal.returns
returns c =
    let a = c.args in
    header_stored a.buffer.now a.page c.put_words.ensures c.put_words-2.ensures c.put_words-3.ensures c.put_words-4.ensures
    (c.put_words-5.ensures ∙ ap (λ (n : ℕ). sets c.put_words-4.new.buffer 16 (word (header_for a.page).total ++ word n)) (c.from-started.ensures ∙ as_bit a.page.started))
    c.put_words-6.ensures
