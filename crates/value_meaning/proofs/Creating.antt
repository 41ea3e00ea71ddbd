-- What the scheduler's functions do to the value that describes a scheduler is what document 01's calls do: a new thread, mutex or condition variable.
-- Assumes nothing.
use Prim.Native.Nat.{ℕ, ◌%◌, ◌<◌, ◌≤◌}
use mathlib.Core.Path.{◌≡◌, refl, sym, ap, ap₂, ◌∙◌}
use mathlib.Core.Logic.{◌≢◌}
use mathlib.Core.List.{List, [], ◌∷◌, ◌++◌, flatten, append_assoc, append-nil}
use native.Mathlib.Omega.{arith}
use lib.ListN.{get_or, length, set, get_or-eq_default}
use lib.Dec.{eqb}
use borrow.Author.Tests.{eqb-true}
use Rattle.laws.specs.Lists.{tabulate}
use Rattle.laws.proofs.Bools.{by_cases, self}
use Rattle.laws.proofs.Lists.{tabulate_same, set_tabulate, tabulate_below}
use Rattle.queue.specs.Stands.{after, link_of, links_of, queues_of}
use Rattle.value_tables.specs.Tables.{with_row}
use Rattle.value_effects.specs.declared.Mutex as scheduler
use Rattle.value_effects.specs.Effects as models
use Rattle.value_effects.specs.Effects.{ready_model, create_model, create_mutex_model}
use Rattle.rules.specs.Queues.{QueueSet, empty_set}
use Rattle.rules.specs.State.{ready, for_mutex, on_condition, Thread, Mutex, Rows, Scheduler, thread, mutex, tied, priority, with_rows, set_at}
use Rattle.rules.specs.Page.{state_code, object_code}
use Rattle.rules.specs.Effects.{thread_created, mutex_created, condition_created}
use Rattle.rules_soundness.proofs.Rows.{priority_base}
use Rattle.rules_soundness.proofs.Facts.{low}
use Rattle.rules_soundness.proofs.Next.{Kept}
use Rattle.rules_soundness.proofs.Creating.{get_or_more, with_thread, with_mutex, facts_thread, new_exists, aside_thread, thread_more, old_thread, old_priority, mutex_more, old_mutex, same_priority, same_tied}
use Rattle.value_meaning.specs.Stands.{all_sets, thread_in, threads_of, mutex_in, scheduler_of}
use Rattle.value_meaning.proofs.Rows.{small_32, small_16}
use Rattle.value_meaning.proofs.Calls.{ready_stands}

-- ---- a thread

module _ {h : Scheduler} (o : Kept h) (b : ℕ) (room : length h.rows.threads < 32) (some : 1 ≤ b) (most : b ≤ 15) where
  abbrev new : ℕ
  new = length h.rows.threads

  abbrev with_new : Rows
  with_new = with_thread h.rows b

  -- nobody of its id owns anything
  owns_nothing : (m : ℕ) → (mutex h.rows m).owner ≡ length h.rows.threads → ⊥
  owns_nothing m e = omega (arith, (o.facts.held m (λ z. omega (arith, e, z, room))).exists, e)

  itself : thread (with_thread h.rows b) (length h.rows.threads) ≡ record { base = b; stands = ready }
  itself = thread_more h.rows b (length h.rows.threads) ∙ rw (self (length h.rows.threads))

  new_priority : priority (with_thread h.rows b) (length h.rows.threads) ≡ b
  new_priority = priority_base (with_thread h.rows b) (length h.rows.threads) owns_nothing ∙ ap (λ (x : Thread). x.base) itself

  new_row : thread_in (with_thread h.rows b) (length h.rows.threads) ≡ record { base = b; priority = b; state = 1; object = 255 }
  unfolding state_code object_code
  new_row = λ i. record { base = (itself i).base; priority = new_priority i; state = state_code (itself i).stands; object = object_code (itself i).stands }

  old_row : (u : ℕ) → u ≢ length h.rows.threads → thread_in h.rows u ≡ thread_in (with_thread h.rows b) u
  old_row u n = λ i. record { base = (sym (old_thread h.rows b u n) i).base; priority = sym (old_priority h.rows b u n) i; state = state_code (sym (old_thread h.rows b u n) i).stands; object = object_code (sym (old_thread h.rows b u n) i).stands }

  rows_more : set (tabulate 32 (thread_in h.rows)) (length h.rows.threads % 32) (record { base = b; priority = b; state = 1; object = 255 }) ≡ tabulate 32 (thread_in (with_thread h.rows b))
  rows_more = ap₂ (λ i x. set (tabulate 32 (thread_in h.rows)) i x) (small_32 (length h.rows.threads) room) (sym new_row) ∙ set_tabulate 32 (thread_in h.rows) (thread_in (with_thread h.rows b)) (length h.rows.threads) old_row

  has_row : models.with_threads (scheduler_of h) (with_row (scheduler_of h).threads new (record { base = b; priority = b; state = 1; object = 255 })) ≡ scheduler_of (with_rows h with_new)
  unfolding scheduler_of threads_of
  has_row = ap (λ x. models.with_threads (scheduler_of h) (record { rows = x; links = links_of (flatten (all_sets h.sets)); ready = queues_of h.sets.ready })) rows_more

  pub create_stands : create_model (scheduler_of h) (length h.rows.threads) b ≡ scheduler_of (thread_created h b)
  unfolding create_model thread_created
  create_stands = ap (λ y. ready_model y new) has_row
      ∙ ready_stands (with_rows h with_new) new (new_exists h.rows b o.facts room some most) (facts_thread h.rows b o.facts room some most).few
      (aside_thread h.rows b o.facts room some most o.queued) (low (facts_thread h.rows b o.facts room some most) new)

-- ---- an empty set more changes no link

-- the link of t in lists, or d
abbrev link_from : ℕ → List (List ℕ) → ℕ → ℕ
link_from t [] d = d
link_from t (l ∷ ls) d = after t l (link_from t ls d)

link_append : (t : ℕ) (xs ys : List (List ℕ)) → link_of t (xs ++ ys) ≡ link_from t xs (link_of t ys)
link_append t [] ys = refl
link_append t (x ∷ xs) ys = ap (after t x) (link_append t xs ys)

link_sets : (t : ℕ) (xss yss : List QueueSet) → link_of t (flatten (xss ++ yss)) ≡ link_from t (flatten xss) (link_of t (flatten yss))
unfolding flatten
link_sets t [] yss = refl
link_sets t (x ∷ xss) yss = link_append t x (flatten (xss ++ yss)) ∙ ap (link_from t x) (link_sets t xss yss) ∙ sym (from_append t x (flatten xss) (link_of t (flatten yss)))
  where
    from_append : (t : ℕ) (xs ys : List (List ℕ)) (d : ℕ) → link_from t (xs ++ ys) d ≡ link_from t xs (link_from t ys d)
    from_append t [] ys d = refl
    from_append t (x ∷ xs) ys d = ap (after t x) (from_append t xs ys d)

link_empty : (t : ℕ) (yss : List QueueSet) → link_of t (flatten (empty_set ∷ yss)) ≡ link_of t (flatten yss)
unfolding flatten empty_set
link_empty t yss = refl

-- the empty set stands anywhere
link_more : (t : ℕ) (xss yss : List QueueSet) → link_of t (flatten (xss ++ (empty_set ∷ yss))) ≡ link_of t (flatten (xss ++ yss))
link_more t xss yss = link_sets t xss (empty_set ∷ yss) ∙ ap (link_from t (flatten xss)) (link_empty t yss) ∙ sym (link_sets t xss yss)

links_more : (xss yss : List QueueSet) → links_of (flatten (xss ++ (empty_set ∷ yss))) ≡ links_of (flatten (xss ++ yss))
unfolding links_of
links_more xss yss = ap (λ l. record { next = l }) (tabulate_same 32 (λ t. link_of t (flatten (xss ++ (empty_set ∷ yss)))) (λ t. link_of t (flatten (xss ++ yss))) (λ t. link_more t xss yss))

-- one empty set more at the end changes no set
set_more : (l : List QueueSet) (i : ℕ) → get_or l i empty_set ≡ get_or (l ++ (empty_set ∷ [])) i empty_set
set_more l i = sym (get_or_more l empty_set empty_set i ∙ by_cases (eqb i (length l))
    (λ e. rw (e, eqb-true i (length l) e) (sym (get_or-eq_default l empty_set {n = length l} (omega arith))))
    (λ e. rw e))

-- ---- a mutex

module _ {h : Scheduler} (o : Kept h) (c : ℕ) (room : length h.rows.mutexes < 16) where
  mutex_row_more : set (tabulate 16 (mutex_in h.rows)) (length h.rows.mutexes % 16) (record { ceiling = c; owner = 255; count = 0 }) ≡ tabulate 16 (mutex_in (with_mutex h.rows c))
  mutex_row_more = ap₂ (λ i x. set (tabulate 16 (mutex_in h.rows)) i x) (small_16 (length h.rows.mutexes) room) (sym (ap row (mutex_more h.rows c (length h.rows.mutexes) ∙ rw (self (length h.rows.mutexes)))))
      ∙ set_tabulate 16 (mutex_in h.rows) (mutex_in (with_mutex h.rows c)) (length h.rows.mutexes) (λ m n. sym (ap row (old_mutex h.rows c m n)))
    where
      row : Mutex → scheduler.Mutex
      row x = record { ceiling = x.ceiling; owner = x.owner; count = x.count }

  rows_as_before : tabulate 32 (thread_in h.rows) ≡ tabulate 32 (thread_in (with_mutex h.rows c))
  rows_as_before = tabulate_below 32 (thread_in h.rows) (thread_in (with_mutex h.rows c)) (λ u l. ap (λ p. record { base = (thread h.rows u).base; priority = p; state = state_code (thread h.rows u).stands; object = object_code (thread h.rows u).stands }) (sym (same_priority h.rows c u (omega arith))))

  links_as_before : links_of (flatten (all_sets h.sets)) ≡ links_of (flatten (all_sets (mutex_created h c).sets))
  unfolding all_sets mutex_created
  links_as_before = sym (ap (λ l. links_of (flatten (h.sets.ready ∷ l))) (append_assoc h.sets.mutex (empty_set ∷ []) h.sets.condition) ∙ links_more (h.sets.ready ∷ h.sets.mutex) h.sets.condition)

  sets_as_before : (m : ℕ) → set_at h.sets (for_mutex m) ≡ set_at (mutex_created h c).sets (for_mutex m)
  unfolding set_at mutex_created
  sets_as_before m = set_more h.sets.mutex m

  pub create_mutex_stands : create_mutex_model (scheduler_of h) (length h.rows.mutexes) c ≡ scheduler_of (mutex_created h c)
  unfolding create_mutex_model scheduler_of threads_of mutex_created
  create_mutex_stands = λ i. record {
    threads = record { rows = rows_as_before i; links = links_as_before i; ready = ready_as_before i };
    mutexes = mutexes_as i;
    formutex = tabulate 16 (λ m. queues_of (sets_as_before m i));
    ties = ties_as i;
    oncondition = tabulate 16 (λ d. queues_of (conditions_as d i));
    running = runs_as i;
  }
    where
      ready_as_before : queues_of h.sets.ready ≡ queues_of (mutex_created h c).sets.ready
      ready_as_before = unfold mutex_created in refl

      mutexes_as : set (tabulate 16 (mutex_in h.rows)) (length h.rows.mutexes % 16) (record { ceiling = c; owner = 255; count = 0 }) ≡ tabulate 16 (mutex_in (mutex_created h c).rows)
      mutexes_as = unfold mutex_created in mutex_row_more

      ties_as : tabulate 16 (tied h.rows) ≡ tabulate 16 (tied (mutex_created h c).rows)
      ties_as = unfold mutex_created in refl

      conditions_as : (d : ℕ) → set_at h.sets (on_condition d) ≡ set_at (mutex_created h c).sets (on_condition d)
      conditions_as d = unfold mutex_created set_at in refl

      runs_as : h.rows.runner ≡ (mutex_created h c).rows.runner
      runs_as = unfold mutex_created in refl

-- ---- a condition variable: the scheduler has its row and its set already

module _ (h : Scheduler) where
  condition_links : links_of (flatten (all_sets h.sets)) ≡ links_of (flatten (all_sets (condition_created h).sets))
  unfolding all_sets condition_created
  condition_links = sym (ap (λ l. links_of (flatten (h.sets.ready ∷ l))) (sym (append_assoc h.sets.mutex h.sets.condition (empty_set ∷ []))) ∙ links_more (h.sets.ready ∷ (h.sets.mutex ++ h.sets.condition)) [] ∙ ap (λ l. links_of (flatten l)) (append-nil (h.sets.ready ∷ (h.sets.mutex ++ h.sets.condition))))

  condition_sets : (c : ℕ) → set_at h.sets (on_condition c) ≡ set_at (condition_created h).sets (on_condition c)
  unfolding set_at condition_created
  condition_sets c = set_more h.sets.condition c

  pub create_condition_stands : scheduler_of h ≡ scheduler_of (condition_created h)
  unfolding scheduler_of threads_of condition_created priority
  create_condition_stands = λ i. record {
    threads = record { rows = tabulate 32 (thread_in h.rows); links = condition_links i; ready = queues_of h.sets.ready };
    mutexes = tabulate 16 (mutex_in h.rows);
    formutex = tabulate 16 (λ m. queues_of (mutexes_as m i));
    ties = tabulate 16 (λ c. sym (same_tied h.rows c) i);
    oncondition = tabulate 16 (λ c. queues_of (condition_sets c i));
    running = h.rows.runner;
  }
    where
      mutexes_as : (m : ℕ) → set_at h.sets (for_mutex m) ≡ set_at (condition_created h).sets (for_mutex m)
      mutexes_as m = unfold condition_created set_at in refl
