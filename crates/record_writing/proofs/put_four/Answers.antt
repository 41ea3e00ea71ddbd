-- `put_four` meets its contract: four stores one after the other. Assumes nothing.
use Rattle.record_writing.proofs.Stores.{four}
use Rattle.record_writing.proofs.put_four.Goals as goal

pub returns : goal.returns
returns c =
    let a = c.args in
    four a.buffer.now a.at a.a a.b a.c a.d c.store.ensures c.store-2.ensures c.store-3.ensures c.store-4.ensures
