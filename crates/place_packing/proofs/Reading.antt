-- What the functions of `place_tables` read, for an id within its table.
-- Assumes nothing.
use Prim.Native.Nat.{ℕ, ◌<◌}
use mathlib.Core.Path.{◌≡◌, ap, ◌∙◌}
use mathlib.Core.List.{List}
use native.Mathlib.Omega.{arith}
use Rattle.value_tables.specs.Tables.{row_of}
use Rattle.value_effects.specs.Effects.{mutex_of}
use Rattle.place_tables.specs.Cells.{thread_in, link_in, mutex_in, tie_in, scheduler_in}
use Rattle.place_tables.specs.Changes.{link_of, tie_of}
use Rattle.place_tables.proofs.Storing.{thread_read, link_read, mutex_read, tie_read}

module _ (k : List ℕ) where
  -- the row of thread t
  pub thread_within : (t : ℕ) → t < 32 → row_of (scheduler_in k).threads t ≡ thread_in k t
  thread_within t l = thread_read k t ∙ ap (thread_in k) (omega arith)

  -- the link of thread t
  pub link_within : (t : ℕ) → t < 32 → link_of (scheduler_in k) t ≡ link_in k t
  link_within t l = link_read k t ∙ ap (link_in k) (omega arith)

  -- the row of mutex m
  pub mutex_within : (m : ℕ) → m < 16 → mutex_of (scheduler_in k) m ≡ mutex_in k m
  mutex_within m l = mutex_read k m ∙ ap (mutex_in k) (omega arith)

  -- the tie of condition variable c
  pub tie_within : (c : ℕ) → c < 16 → tie_of (scheduler_in k) c ≡ tie_in k c
  tie_within c l = tie_read k c ∙ ap (tie_in k) (omega arith)
