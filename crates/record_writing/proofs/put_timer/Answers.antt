-- `put_timer` meets its contract: four bytes, then four more. Assumes nothing.
use Prim.Native.Nat.{◌+◌, ◌*◌}
use Rattle.record_writing.proofs.Whole.{timer_stored}
use Rattle.record_writing.proofs.put_timer.Goals as goal

pub returns : goal.returns
returns c =
    let a = c.args in
    timer_stored a.buffer.now (a.at + 8 * a.i) a.row c.put_four.ensures c.put_words.ensures
