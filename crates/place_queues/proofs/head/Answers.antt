-- `head` meets its contract. Assumes nothing.
use Rattle.place_tables.specs.Cells.{scheduler_in}
use Prim.Native.Nat.{◌%◌}
use mathlib.Core.Path.{ap, ◌∙◌}
use Rattle.place_tables.specs.Changes.{set_numbered}
use Rattle.queue.specs.declared.Queue.{Queue}
use Rattle.queue.specs.Linking.{level_model}
use Rattle.value_tables.specs.Tables.{head_model}
use Rattle.place_queues.proofs.head.Goals as goal

pub returns : goal.returns
unfolding head_model
returns c =
    (λ i. record { priority = c.highest_at-priority.ensures i; thread = (ap (λ (q : Queue). q.first) c.queue_at-queue.ensures ∙ ap (λ p. (level_model (set_numbered (scheduler_in c.args.cells.now) (c.args.n % 33)) p).first) c.highest_at-priority.ensures) i })
