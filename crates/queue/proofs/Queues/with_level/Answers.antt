-- `Queues::with_level` stores what its definition says. Assumes nothing.
use mathlib.Core.Path.{◌≡◌}
use native.Mathlib.Omega.{arith}
use lib.ListN.{length}
use lib.Seq.{set_out}
use Rattle.queue.specs.Linking.{with_level_model}
use Rattle.queue.proofs.Cases.{cases}
use Rattle.queue.proofs.Queues.with_level.Goals as goal

pub returns-then-p-lt-PRIORITIES : goal.returns-then-p-lt-PRIORITIES
unfolding with_level_model
returns-then-p-lt-PRIORITIES c = search cases

pub returns-else-p-lt-PRIORITIES : goal.returns-else-p-lt-PRIORITIES
unfolding with_level_model
returns-else-p-lt-PRIORITIES c =
    let len : length c.args.self.levels ≡ 16 = search cases in
    rw (set_out c.args.self.levels c.args.p c.args.q (omega arith))
