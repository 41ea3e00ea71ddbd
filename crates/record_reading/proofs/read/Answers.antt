-- `read` meets its contract: the header's numbers and the four tables. Assumes nothing.
use Prim.Native.Nat.{◌+◌, ◌*◌}
use lib.Dec.{eqb}
use Rattle.record_reading.specs.Rows.{read_model}
use Rattle.record_reading.proofs.read.Goals as goal

pub returns : goal.returns
unfolding read_model
returns c =
    let a = c.args in
    λ i. record {
      started = eqb (c.word_at-started.ensures i) 1;
      count = c.word_at-low.ensures i + 65536 * c.word_at-high.ensures i;
      threads = a.threads;
      mutexes = a.mutexes;
      conditions = a.conditions;
      timers = a.timers;
      threadrows = c.read_threads-threadrows.ensures i;
      mutexrows = c.read_mutexes-mutexrows.ensures i;
      ties = c.read_ties-ties.ensures i;
      timerrows = c.read_timers-timerrows.ensures i;
    }
