-- Acquiring and signalling by their tests, on what was read for them.
-- Assumes nothing.
use Prim.Native.Nat.{ℕ, ◌+◌, ◌%◌, ◌<◌, ◌≤◌, max}
use mathlib.Core.Path.{◌≡◌, refl, sym, ap, ◌∙◌}
use mathlib.Core.Bool.{Bool, true, false, cond}
use mathlib.Core.List.{List}
use native.Mathlib.Omega.{arith}
use lib.ListN.{get_or}
use lib.Seq.{get_or-set_same}
use lib.Dec.{leb}
use borrow.Author.Tests.{lt-ltb, le-leb, lt-leb, eq-eqb, ne_eqb}
use Rattle.laws.proofs.Lists.{length_tabulate}
use Rattle.queue.specs.declared.Queues.{Queues}
use Rattle.queue.specs.Linking.{highest_model}
use Rattle.value_tables.specs.declared.Head.{Head}
use Rattle.value_tables.specs.declared.Thread.{Thread}
use Rattle.value_tables.specs.Tables.{blank, row_of, lift_model, head_model, leave_model_in}
use Rattle.value_effects.specs.declared.Mutex.{Mutex}
use Rattle.value_effects.specs.declared.Scheduler.{Scheduler}
use Rattle.value_effects.specs.declared.Signalled.{Signalled}
use Rattle.value_effects.specs.Effects.{no_set, mutex_of, on_condition_of, with_tie, highest_in, settle_model, own_model, recount_model, wait_for_model, acquire_model, wake_model, leave_condition_model, untie_model, signal_to_model, signal_model}
use Rattle.place_tables.specs.Cells.{set_in, scheduler_in}
use Rattle.place_tables.specs.Changes.{set_numbered, tie_of, with_thread}
use Rattle.place_queues.proofs.Joins.{on_condition_lem}

-- ---- acquiring

module _ (x : Scheduler) (m caller : ℕ) (row : Mutex) (read : row ≡ mutex_of x m) (run : caller ≡ x.running) where
  -- the mutex's own row has the test
  owned : (t : ℕ) → row.owner ≡ t → (mutex_of x m).owner ≡ t
  owned t h = ap (λ (r : Mutex). r.owner) (sym read) ∙ h

  -- again
  pub acquire_again : row.owner ≡ caller → recount_model x m (row.count % 255 + 1) ≡ acquire_model x m
  unfolding acquire_model
  acquire_again h = rw (eq-eqb (mutex_of x m).owner x.running (owned caller h ∙ run)) (ap (λ (r : Mutex). recount_model x m (r.count % 255 + 1)) read)

  -- from nobody
  pub acquire_free : (row.owner ≡ caller → ⊥) → row.owner ≡ 255 → own_model x m caller 1 ≡ acquire_model x m
  unfolding acquire_model
  acquire_free n h = rw (ne_eqb (mutex_of x m).owner x.running (λ e. n (ap (λ (r : Mutex). r.owner) read ∙ e ∙ sym run)), eq-eqb (mutex_of x m).owner 255 (owned 255 h)) (ap (λ t. own_model x m t 1) run)

  -- or it waits
  pub acquire_waits : (row.owner ≡ caller → ⊥) → (row.owner ≡ 255 → ⊥) → wait_for_model x caller m ≡ acquire_model x m
  unfolding acquire_model
  acquire_waits n h = rw (
    ne_eqb (mutex_of x m).owner x.running (λ e. n (ap (λ (r : Mutex). r.owner) read ∙ e ∙ sym run)),
    ne_eqb (mutex_of x m).owner 255 (λ e. h (ap (λ (r : Mutex). r.owner) read ∙ e)),
  ) (ap (λ t. wait_for_model x t m) run)

-- ---- settling

-- the stored priority that was counted is the one that follows
pub settles : (x : Scheduler) (t p : ℕ) (row : Thread) → t < 32 → row ≡ row_of x.threads t → p ≡ max row.base (highest_in x.mutexes t)
    → with_thread x t (record { base = row.base; priority = p; state = row.state; object = row.object }) ≡ settle_model x t
unfolding settle_model lift_model
settles x t p row l read counted =
    let e : t % 32 ≡ t = omega arith in
    let b : row.base ≡ (get_or x.threads.rows t blank).base = ap (λ (r : Thread). r.base) read ∙ ap (λ i. (get_or x.threads.rows i blank).base) e in
    rw (lt-ltb t 32 l, ← b, ← counted, ← read) refl

-- ---- signalling

-- the set that a condition variable has is the one that was put there
set_put : (k : List ℕ) (c : ℕ) (f : Head) → on_condition_of (leave_condition_model (scheduler_in k) c f) c ≡ (leave_model_in (scheduler_in k).threads (on_condition_of (scheduler_in k) c) f.priority).set
unfolding leave_condition_model scheduler_in
set_put k c f = get_or-set_same (scheduler_in k).oncondition (c % 16) (leave_model_in (scheduler_in k).threads (on_condition_of (scheduler_in k) c) f.priority).set no_set
    (omega (arith, length_tabulate 16 (λ i. set_in k (17 + i))))

-- and the tie is as it was
tie_left : (k : List ℕ) (c : ℕ) (f : Head) → tie_of (leave_condition_model (scheduler_in k) c f) c ≡ get_or (scheduler_in k).ties (c % 16) 0
unfolding leave_condition_model
tie_left k c f = refl

-- the priority of a set's head
head_priority : (s : Queues) → (head_model s).priority ≡ highest_model s
unfolding head_model
head_priority s = refl

module _ (k : List ℕ) (c : ℕ) (f : Head) (read : f ≡ head_model (on_condition_of (scheduler_in k) c)) where
  -- nobody leaves
  pub signals_none : 16 ≤ f.priority → record { scheduler = scheduler_in k; left = 0 } ≡ signal_model (scheduler_in k) c
  unfolding signal_model
  signals_none h = rw (← read, le-leb 16 f.priority h) refl

  -- the head leaves, the tie ends with the last, and the head wakes
  pub signals_one : f.priority < 16 → (y z : Scheduler) (best m : ℕ) → y ≡ leave_condition_model (scheduler_in k) c f → best ≡ highest_model (set_numbered y ((c % 16 + 17) % 33)) → m ≡ tie_of y c
      → z ≡ cond (leb 16 best) (with_tie y c 255) y → record { scheduler = wake_model z m f.thread; left = 1 } ≡ signal_model (scheduler_in k) c
  unfolding signal_model signal_to_model untie_model
  signals_one h y z best m left found tied untied =
      let e : best ≡ (head_model (leave_model_in (scheduler_in k).threads (on_condition_of (scheduler_in k) c) f.priority).set).priority
      = found ∙ ap highest_model (on_condition_lem y c ∙ ap (λ x. on_condition_of x c) left ∙ set_put k c f)
      ∙ sym (head_priority (leave_model_in (scheduler_in k).threads (on_condition_of (scheduler_in k) c) f.priority).set) in
      let t : m ≡ get_or (scheduler_in k).ties (c % 16) 0 = tied ∙ ap (λ x. tie_of x c) left ∙ tie_left k c f in
      rw (← read, lt-leb 16 f.priority h, ← t, ← e) (ap (λ s. record { scheduler = wake_model s m f.thread; left = 1 }) (untied ∙ ap (λ x. cond (leb 16 best) (with_tie x c 255) x) left))

-- a signal by which nobody leaves changes nothing
pub signal_quiet : (x : Scheduler) (c : ℕ) → (signal_model x c).left ≡ 0 → (signal_model x c).scheduler ≡ x
unfolding signal_model
signal_quiet x c = by_test (leb 16 (head_model (on_condition_of x c)).priority)
  where
    none : Signalled
    none = record { scheduler = x; left = 0 }

    one : Signalled
    one = record { scheduler = signal_to_model x c (head_model (on_condition_of x c)); left = 1 }

    by_test : (b : Bool) → (cond {A = Signalled} b none one).left ≡ 0 → (cond {A = Signalled} b none one).scheduler ≡ x
    by_test true e = refl
    by_test false e = absurd (omega (arith, e))
