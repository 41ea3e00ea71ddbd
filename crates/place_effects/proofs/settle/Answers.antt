-- `settle` meets its contract, by `settles`. Assumes nothing.
use Prim.Native.Nat.{max}
use mathlib.Core.Path.{ap, ◌∙◌}
use borrow.Author.Tests.{le-ltb}
use Rattle.value_effects.specs.Effects.{settle_model}
use Rattle.place_effects.proofs.Calls.{settles}
use Rattle.place_effects.proofs.settle.Goals as goal

pub returns-then-t-ge-THREADS : goal.returns-then-t-ge-THREADS
unfolding settle_model
returns-then-t-ge-THREADS c = rw (le-ltb _ _ c.if-t-ge-THREADS.true)

pub returns : goal.returns
returns c =
    rw c.put_thread.ensures (settles _ _ _ _ c.if-t-ge-THREADS.false c.thread_at-row.ensures (c.max-priority.ensures ∙ ap (max c.thread_at-row.result.base) c.highest_ceiling-ceiling.ensures))
