-- `Queues::level` reads what its definition says. Assumes nothing.
use mathlib.Core.Path.{◌≡◌, sym, ◌∙◌}
use native.Mathlib.Omega.{arith}
use lib.ListN.{length, get_or-eq_default}
use Rattle.laws.proofs.Lists.{get_d_any}
use Rattle.queue.specs.Linking.{empty_queue, level_model}
use Rattle.queue.proofs.Cases.{cases}
use Rattle.queue.proofs.Queues.level.Goals as goal

pub returns-then-p-lt-PRIORITIES : goal.returns-then-p-lt-PRIORITIES
unfolding level_model
returns-then-p-lt-PRIORITIES c =
    let len : length c.args.self.levels ≡ 16 = search cases in
    get_d_any c.args.self.levels c.args.p _ empty_queue (omega arith)

pub returns : goal.returns
unfolding level_model
returns c =
    let len : length c.args.self.levels ≡ 16 = search cases in
    c.empty.ensures ∙ sym (get_or-eq_default c.args.self.levels empty_queue (omega arith))
