-- A thread that joins the set of a mutex or of a condition variable and stands there, or leaves it: as the definition has it.
-- Assumes nothing.
use Prim.Native.Nat.{ℕ, ◌+◌, ◌%◌}
use mathlib.Core.Path.{◌≡◌, ap, ◌∙◌}
use Rattle.queue.specs.declared.Queues.{Queues}
use Rattle.value_tables.specs.declared.Joined.{Joined}
use Rattle.value_tables.specs.Tables as tables
use Rattle.value_tables.specs.Tables.{row_of, join_model, depart_model, remove_from_model, stand_model, with_links, leave_model_in, remove_model_in}
use Rattle.value_effects.specs.declared.Scheduler.{Scheduler}
use Rattle.value_effects.specs.Effects.{with_threads, for_mutex_of, on_condition_of, with_for_mutex, with_on_condition, wait_for_model, wait_on_model}
use Rattle.place_tables.specs.Changes.{set_numbered}
use Rattle.place_queues.specs.Joining.{links_kept, with_joined}
use Rattle.place_queues.proofs.Joins.{for_mutex_lem, on_condition_lem, with_for_mutex_lem, with_on_condition_lem}

module _ (x : Scheduler) (m : ℕ) where
  -- the set of mutex m after joining or leaving
  for_joined : (f : Queues → Joined) → with_joined x ((m % 16 + 1) % 33) (f (set_numbered x ((m % 16 + 1) % 33)))
      ≡ with_for_mutex x m (record { threads = with_links x.threads (f (for_mutex_of x m)).links; set = (f (for_mutex_of x m)).set })
  for_joined f = ap (λ s. with_joined x ((m % 16 + 1) % 33) (f s)) (for_mutex_lem x m)
      ∙ with_for_mutex_lem x (with_links x.threads (f (for_mutex_of x m)).links) m (f (for_mutex_of x m)).set

  -- the set of condition variable m after joining or leaving
  on_joined : (f : Queues → Joined) → with_joined x ((m % 16 + 17) % 33) (f (set_numbered x ((m % 16 + 17) % 33)))
      ≡ with_on_condition x m (record { threads = with_links x.threads (f (on_condition_of x m)).links; set = (f (on_condition_of x m)).set })
  on_joined f = ap (λ s. with_joined x ((m % 16 + 17) % 33) (f s)) (on_condition_lem x m)
      ∙ with_on_condition_lem x (with_links x.threads (f (on_condition_of x m)).links) m (f (on_condition_of x m)).set

  -- thread t stands at the mutex
  pub waits_for : (t : ℕ) (y : Scheduler) → y ≡ with_joined x ((m % 16 + 1) % 33) (join_model (links_kept x) (set_numbered x ((m % 16 + 1) % 33)) (row_of x.threads t).priority t)
      → with_threads y (stand_model y.threads t 3 m) ≡ wait_for_model x t m
  unfolding wait_for_model tables.wait_model
  waits_for t y e = ap (λ z. with_threads z (stand_model z.threads t 3 m)) (e ∙ for_joined (λ s. join_model (links_kept x) s (row_of x.threads t).priority t))

  -- thread t stands at the condition variable
  pub waits_on : (t : ℕ) (y : Scheduler) → y ≡ with_joined x ((m % 16 + 17) % 33) (join_model (links_kept x) (set_numbered x ((m % 16 + 17) % 33)) (row_of x.threads t).priority t)
      → with_threads y (stand_model y.threads t 4 m) ≡ wait_on_model x t m
  unfolding wait_on_model tables.wait_model
  waits_on t y e = ap (λ z. with_threads z (stand_model z.threads t 4 m)) (e ∙ on_joined (λ s. join_model (links_kept x) s (row_of x.threads t).priority t))

  -- the first of the queue of priority p leaves the mutex
  pub leaves_mutex : (p : ℕ) → with_joined x ((m % 16 + 1) % 33) (depart_model (links_kept x) (set_numbered x ((m % 16 + 1) % 33)) p) ≡ with_for_mutex x m (leave_model_in x.threads (for_mutex_of x m) p)
  unfolding leave_model_in
  leaves_mutex p = for_joined (λ s. depart_model (links_kept x) s p)

  -- the first of the queue of priority p leaves the condition variable
  pub leaves_condition : (p : ℕ) → with_joined x ((m % 16 + 17) % 33) (depart_model (links_kept x) (set_numbered x ((m % 16 + 17) % 33)) p) ≡ with_on_condition x m (leave_model_in x.threads (on_condition_of x m) p)
  unfolding leave_model_in
  leaves_condition p = on_joined (λ s. depart_model (links_kept x) s p)

  -- thread t leaves the queue of priority p at the mutex
  pub removes_mutex : (p t : ℕ) → with_joined x ((m % 16 + 1) % 33) (remove_from_model (links_kept x) (set_numbered x ((m % 16 + 1) % 33)) p t) ≡ with_for_mutex x m (remove_model_in x.threads (for_mutex_of x m) p t)
  unfolding remove_model_in
  removes_mutex p t = for_joined (λ s. remove_from_model (links_kept x) s p t)

  -- thread t leaves the queue of priority p at the condition variable
  pub removes_condition : (p t : ℕ) → with_joined x ((m % 16 + 17) % 33) (remove_from_model (links_kept x) (set_numbered x ((m % 16 + 17) % 33)) p t) ≡ with_on_condition x m (remove_model_in x.threads (on_condition_of x m) p t)
  unfolding remove_model_in
  removes_condition p t = on_joined (λ s. remove_from_model (links_kept x) s p t)
