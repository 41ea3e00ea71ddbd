-- `read_timers` meets its contract: row by row. Assumes nothing.
use Rattle.std.proofs.Common.{rules}
use Rattle.laws.proofs.Making.{made}
use Rattle.page.specs.Says.{no_timer_row}
use Rattle.record_reading.proofs.read_timers.Goals as goal

pub returns : goal.returns
returns c = made 32 _ (λ i row f l call. search rules) c.from_fn.ensures.items no_timer_row
