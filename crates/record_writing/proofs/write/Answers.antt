-- `write` meets its contract: the header, then the tables without gaps. Assumes nothing.
use Rattle.record_writing.proofs.Whole.{whole_stored}
use Rattle.record_writing.proofs.write.Goals as goal

pub returns : goal.returns
returns c =
    let a = c.args in
    whole_stored a.page a.buffer.now c.write_header.ensures c.write_threads.ensures c.write_mutexes.ensures c.write_ties.ensures c.write_timers.ensures
