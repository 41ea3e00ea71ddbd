-- What standing and owning do to the rows of the code: a stored row is the definition's row.
-- Assumes nothing.
use Prim.Native.Nat.{ℕ, ◌%◌, ◌<◌, ◌≤◌}
use mathlib.Core.Path.{◌≡◌, sym, ap, ap₂, ◌∙◌}
use mathlib.Core.Logic.{◌≢◌}
use native.Mathlib.Omega.{arith}
use lib.ListN.{length, get_or, set}
use borrow.Author.Tests.{ne_eqb}
use Rattle.laws.specs.Lists.{tabulate}
use Rattle.laws.proofs.Bools.{self}
use Rattle.laws.proofs.Lists.{get_d_tabulate, set_tabulate}
use Rattle.value_tables.specs.declared.Thread as tables
use Rattle.value_tables.specs.Tables.{blank, stand_model}
use Rattle.queue.specs.declared.Links.{Links}
use Rattle.queue.specs.declared.Queues.{Queues}
use Rattle.rules.specs.State.{Where, Rows, thread, priority, stand}
use Rattle.rules.specs.Page.{state_code, object_code}
use Rattle.rules_soundness.proofs.Rows.{base_stand, stands_stand, priority_stand}
use Rattle.value_meaning.specs.Stands.{thread_in}

-- a small number is its remainder
pub small_32 : (t : ℕ) → t < 32 → t % 32 ≡ t
small_32 t h = omega arith

pub small_16 : (m : ℕ) → m < 16 → m % 16 ≡ m
small_16 m h = omega arith

-- the row of a thread is read
pub row_read : (k : Rows) (t : ℕ) → t < 32 → get_or (tabulate 32 (thread_in k)) (t % 32) blank ≡ thread_in k t
row_read k t h = rw (small_32 t h) (get_d_tabulate 32 (thread_in k) t blank h)

-- ---- standing

module _ (k : Rows) (t : ℕ) (w : Where) (there : t < length k.threads) where
  row_stand : thread_in (stand k t w) t ≡ record { base = (thread k t).base; priority = priority k t; state = state_code w; object = object_code w }
  row_stand = λ i. record {
    base = base_stand k t w t there i;
    priority = priority_stand k t w t there i;
    state = state_code (itself i);
    object = object_code (itself i);
  }
    where
      itself : (thread (stand k t w) t).stands ≡ w
      itself = stands_stand k t w t there ∙ rw (self t)

  row_others : (u : ℕ) → u ≢ t → thread_in k u ≡ thread_in (stand k t w) u
  row_others u n = λ i. record {
    base = sym (base_stand k t w u there) i;
    priority = sym (priority_stand k t w u there) i;
    state = state_code (sym same i);
    object = object_code (sym same i);
  }
    where
      same : (thread (stand k t w) u).stands ≡ (thread k u).stands
      same = stands_stand k t w u there ∙ rw (ne_eqb u t n)

  pub stand_rows : set (tabulate 32 (thread_in k)) t (record { base = (thread k t).base; priority = priority k t; state = state_code w; object = object_code w }) ≡ tabulate 32 (thread_in (stand k t w))
  stand_rows = ap (set (tabulate 32 (thread_in k)) t) (sym row_stand) ∙ set_tabulate 32 (thread_in k) (thread_in (stand k t w)) t row_others

-- a thread stands elsewhere
pub stand_stands : (k : Rows) (t : ℕ) (w : Where) (l : Links) (r : Queues) → t < length k.threads → length k.threads ≤ 32
    → stand_model (record { rows = tabulate 32 (thread_in k); links = l; ready = r }) t (state_code w) (object_code w) ≡ record { rows = tabulate 32 (thread_in (stand k t w)); links = l; ready = r }
unfolding stand_model
stand_stands k t w l r there few = ap (λ x. record { rows = x; links = l; ready = r }) (ap₂ (λ i row. set (tabulate 32 (thread_in k)) i row) (small_32 t (omega arith)) (ap (λ (x : tables.Thread). record { base = x.base; priority = x.priority; state = state_code w; object = object_code w }) (row_read k t (omega arith))) ∙ stand_rows k t w there)
