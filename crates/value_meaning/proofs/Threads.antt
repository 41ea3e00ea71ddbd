-- The threads' functions on the value that describes a scheduler give the value that describes the definition's next one.
-- Assumes nothing.
use Prim.Native.Nat.{ℕ, ◌<◌, ◌≤◌}
use mathlib.Core.Path.{◌≡◌, refl, sym, ap, ◌∙◌}
use mathlib.Core.Bool.{Bool, true, cond, ◌&&◌, false≢true}
use mathlib.Core.List.{flatten}
use native.Mathlib.Omega.{arith}
use lib.ListN.{length, set}
use lib.Seq.{set-get_or}
use lib.Dec.{eqb, ltb, leb}
use borrow.Author.Tests.{lt-leb}
use Rattle.laws.proofs.Bools.{by_cases, and_false}
use Rattle.queue.specs.Stands.{links_of, queues_of}
use Rattle.value_tables.specs.declared.Thread as tables
use Rattle.value_tables.specs.declared.Threads.{Threads}
use Rattle.value_tables.specs.declared.Joined.{Joined}
use Rattle.value_tables.specs.declared.Ran.{Ran}
use Rattle.value_tables.specs.declared.Waiting.{Waiting}
use Rattle.value_tables.specs.Tables.{join_model, join_front_model, depart_model, head_model, row_of, stand_model, with_ready, arrive_model, arrive_in_front_model, with_links, wait_model, leave_model_in, ran, run_model, run_first_model, choose_next_model}
use Rattle.rules.specs.Queues.{QueueSet, First, nobody, somebody, to_back, to_front, first_leaves}
use Rattle.rules.specs.State.{Where, running, ready, for_mutex, on_condition, waits, Rows, Sets, Scheduler, no_thread, thread, priority, with_threads, stand, set_at, put_set, first_at, arrive, arrive_in_front, depart}
use Rattle.rules.specs.Next.{run, run_first, higher, equal, choose_next}
use Rattle.rules.specs.Page.{state_code, object_code}
use Rattle.rules_soundness.proofs.Fits.{first_queue}
use Rattle.rules_soundness.proofs.Rows.{Real, length_stand}
use Rattle.rules_soundness.proofs.Facts.{Queued, low}
use Rattle.rules_soundness.proofs.Moves.{first_exists, queued_arrive, queued_front}
use Rattle.rules_soundness.proofs.Next.{Kept, Turned}
use Rattle.rules_soundness.proofs.Calls.{stands_there}
use Rattle.value_meaning.specs.Stands.{all_sets, thread_in, threads_of}
use Rattle.value_meaning.proofs.Joining.{standing, join_stands, join_front_stands, part_stands, head_of, head_stands}
use Rattle.value_meaning.proofs.Rows.{row_read, stand_stands}

-- ---- arriving, for a thread that has left its queue and stands nowhere

module _ (k : Rows) (s : Sets) (t : ℕ) (there : t < length k.threads) (few : length k.threads ≤ 32) (aside : Queued (stand k t running) s) (small : priority k t < 16) where
  short : length (stand k t running).threads ≤ 32
  short = rw (length_stand k t running) few

  own_priority : (row_of (threads_of k s) t).priority ≡ priority k t
  unfolding threads_of
  own_priority = ap (λ (x : tables.Thread). x.priority) (row_read k t (omega arith))

  -- it joins the queue of its priority at w
  joins : (w : Where) → Real k w → join_model (links_of (flatten (all_sets s))) (queues_of (set_at s w)) (row_of (threads_of k s) t).priority t ≡ standing s w (to_back (set_at s w) (priority k t) t)
  joins w r = ap (λ p. join_model (links_of (flatten (all_sets s))) (queues_of (set_at s w)) p t) own_priority
      ∙ join_stands aside short w (unfold stand in r) (priority k t) small t (omega arith) (stands_there k t running there)

  joins_front : (w : Where) → Real k w → join_front_model (links_of (flatten (all_sets s))) (queues_of (set_at s w)) (row_of (threads_of k s) t).priority t ≡ standing s w (to_front (set_at s w) (priority k t) t)
  joins_front w r = ap (λ p. join_front_model (links_of (flatten (all_sets s))) (queues_of (set_at s w)) p t) own_priority
      ∙ join_front_stands aside short w (unfold stand in r) (priority k t) small t (omega arith) (stands_there k t running there)

  joins_there : (w : Where) → Real k w → join_model (threads_of k s).links (queues_of (set_at s w)) (row_of (threads_of k s) t).priority t ≡ standing s w (to_back (set_at s w) (priority k t) t)
  joins_there w r = unfold threads_of in (joins w r)

  -- it is ready once the queues q stand in the ready set
  made_ready : (j : Joined) (q : QueueSet) → j ≡ standing s ready q → stand_model (with_ready (threads_of k s) j) t 1 255 ≡ threads_of (stand k t ready) (put_set s ready q)
  made_ready j q e = ap (λ (x : Joined). stand_model (with_ready (threads_of k s) x) t 1 255) e
      ∙ (unfold threads_of put_set state_code object_code in (stand_stands k t ready (links_of (flatten (all_sets (put_set s ready q)))) (queues_of q) there few))

  pub arrive_stands : arrive_model (threads_of k s) t ≡ threads_of (stand k t ready) (put_set s ready (to_back (set_at s ready) (priority k t) t))
  unfolding arrive_model
  arrive_stands = made_ready (join_model (threads_of k s).links (threads_of k s).ready (row_of (threads_of k s) t).priority t) (to_back (set_at s ready) (priority k t) t) (unfold threads_of set_at in (joins ready tt))

  pub arrive_in_front_stands : arrive_in_front_model (threads_of k s) t ≡ threads_of (stand k t ready) (put_set s ready (to_front (set_at s ready) (priority k t) t))
  unfolding arrive_in_front_model
  arrive_in_front_stands = made_ready (join_front_model (threads_of k s).links (threads_of k s).ready (row_of (threads_of k s) t).priority t) (to_front (set_at s ready) (priority k t) t) (unfold threads_of set_at in (joins_front ready tt))

  -- it waits at w, and the ready queues stay
  pub wait_stands : (w : Where) → Real k w → waits w ≡ true → wait_model (threads_of k s) (queues_of (set_at s w)) t (state_code w) (object_code w)
      ≡ record { threads = threads_of (stand k t w) (put_set s w (to_back (set_at s w) (priority k t) t)); set = queues_of (to_back (set_at s w) (priority k t) t) }
  unfolding wait_model
  wait_stands w r z = ap (λ (j : Joined). record { threads = stand_model (with_links (threads_of k s) j.links) t (state_code w) (object_code w); set = j.set }) (joins_there w r)
      ∙ ap (λ x. record { threads = x; set = queues_of (to_back (set_at s w) (priority k t) t) }) (go w z)
    where
      go : (v : Where) → waits v ≡ true → stand_model (with_links (threads_of k s) (links_of (flatten (all_sets (put_set s v (to_back (set_at s v) (priority k t) t)))))) t (state_code v) (object_code v) ≡ threads_of (stand k t v) (put_set s v (to_back (set_at s v) (priority k t) t))
      go running y = absurd (false≢true y)
      go ready y = absurd (false≢true y)
      go (for_mutex m) y = unfold threads_of put_set in (stand_stands k t (for_mutex m) (links_of (flatten (all_sets (put_set s (for_mutex m) (to_back (set_at s (for_mutex m)) (priority k t) t))))) (queues_of s.ready) there few)
      go (on_condition c) y = unfold threads_of put_set in (stand_stands k t (on_condition c) (links_of (flatten (all_sets (put_set s (on_condition c) (to_back (set_at s (on_condition c)) (priority k t) t))))) (queues_of s.ready) there few)

-- ---- leaving

-- the threads and the set at w once the queues x stand there
abbrev pub waiting_at : Rows → Sets → Where → QueueSet → Waiting
waiting_at k s w x = record { threads = threads_of k (put_set s w x); set = queues_of x }

-- whoever has left
pub left_stands : (k : Rows) (s : Sets) (w : Where) → waits w ≡ true → (j : Joined) (x : QueueSet) → j ≡ standing s w x
    → ◌≡◌ {A = Waiting} (record { threads = with_links (threads_of k s) j.links; set = j.set }) (waiting_at k s w x)
left_stands k s w z j x e = ap (λ (y : Joined). record { threads = with_links (threads_of k s) y.links; set = y.set }) e
    ∙ ap (λ y. record { threads = y; set = queues_of x }) (go w z)
  where
    go : (v : Where) → waits v ≡ true → with_links (threads_of k s) (links_of (flatten (all_sets (put_set s v x)))) ≡ threads_of k (put_set s v x)
    go running y = absurd (false≢true y)
    go ready y = absurd (false≢true y)
    go (for_mutex m) y = unfold threads_of put_set in refl
    go (on_condition c) y = unfold threads_of put_set in refl

pub leave_stands : (k : Rows) (s : Sets) → Queued k s → length k.threads ≤ 32 → (w : Where) → Real k w → waits w ≡ true → (p : ℕ) → p < 16
    → leave_model_in (threads_of k s) (queues_of (set_at s w)) p ≡ record { threads = threads_of k (put_set s w (first_leaves (set_at s w) p)); set = queues_of (first_leaves (set_at s w) p) }
unfolding leave_model_in
leave_stands k s q few w r z p small = left_stands k s w z (depart_model (threads_of k s).links (queues_of (set_at s w)) p) (first_leaves (set_at s w) p)
    (unfold threads_of in (part_stands q few w r p small))

-- ---- running

-- the threads and the running thread of a scheduler
unfoldable pub ran_of : Scheduler → Ran
ran_of h = record { threads = threads_of h.rows h.sets; running = h.rows.runner }

module _ (h : Scheduler) (q : Queued h.rows h.sets) (few : length h.rows.threads ≤ 32) where
  head_ready : head_model (threads_of h.rows h.sets).ready ≡ head_of (first_at h ready)
  head_ready = unfold threads_of set_at in (head_stands q few ready tt)

  run_stands : (f : First) → first_at h ready ≡ f → cond (leb 16 (head_of f).priority) (ran (threads_of h.rows h.sets) h.rows.runner) (run_model (threads_of h.rows h.sets) (head_of f)) ≡ ran_of (run h f)
  unfolding run ran_of
  run_stands nobody e = refl
  run_stands (somebody p t) e = rw (lt-leb 16 p low_p) (unfold run_model in (ap (λ x. ran x t) runs))
    where
      low_p : p < 16
      low_p = (first_queue 16 (set_at h.sets ready) p t e).0

      parted : depart_model (threads_of h.rows h.sets).links (threads_of h.rows h.sets).ready p ≡ standing h.sets ready (first_leaves (set_at h.sets ready) p)
      parted = unfold threads_of set_at in (part_stands q few ready tt p low_p)

      runs : stand_model (with_ready (threads_of h.rows h.sets) (depart_model (threads_of h.rows h.sets).links (threads_of h.rows h.sets).ready p)) t 2 255
          ≡ threads_of (run h (somebody p t)).rows (run h (somebody p t)).sets
      runs = ap (λ (j : Joined). stand_model (with_ready (threads_of h.rows h.sets) j) t 2 255) parted
          ∙ (unfold threads_of put_set state_code object_code priority depart in (stand_stands h.rows t running (links_of (flatten (all_sets (put_set h.sets ready (first_leaves (set_at h.sets ready) p))))) (queues_of (first_leaves (set_at h.sets ready) p)) (first_exists q ready tt p t e) few))

  pub run_first_stands : run_first_model (threads_of h.rows h.sets) h.rows.runner ≡ ran_of (run_first h)
  unfolding run_first_model run_first
  run_first_stands = ap (λ x. cond (leb 16 x.priority) (ran (threads_of h.rows h.sets) h.rows.runner) (run_model (threads_of h.rows h.sets) x)) head_ready ∙ run_stands (first_at h ready) refl

-- ---- the rule of three

waits_code : (w : Where) → leb 3 (state_code w) ≡ waits w
unfolding state_code
waits_code running = refl
waits_code ready = refl
waits_code (for_mutex m) = refl
waits_code (on_condition c) = refl

-- one who runs is put nowhere by being put to run
pub stand_same : (k : Rows) (t : ℕ) → (thread k t).stands ≡ running → stand k t running ≡ k
unfolding stand
stand_same k t e = ap (with_threads k) (ap (λ w. set k.threads t (record { base = (thread k t).base; stands = w })) (sym e) ∙ set-get_or k.threads t no_thread)

module _ {h : Scheduler} (o : Kept h) (turned : Turned h.rows) where
  abbrev caller : ℕ
  caller = h.rows.runner

  abbrev x : Threads
  x = threads_of h.rows h.sets

  abbrev few : length h.rows.threads ≤ 32
  few = o.facts.few

  caller_small : h.rows.runner < 32
  caller_small = omega (arith, turned.there, o.facts.few)

  row : row_of x caller ≡ thread_in h.rows caller
  row = unfold threads_of in (row_read h.rows caller caller_small)

  module _ (runs : (thread h.rows caller).stands ≡ running) where
    aside : Queued (stand h.rows caller running) h.sets
    aside = rw (stand_same h.rows caller runs) o.queued

    -- the caller goes back to the ready queues, and the first runs
    preempts : run_first_model (arrive_in_front_model x caller) caller ≡ ran_of (run_first (arrive_in_front h caller))
    preempts = ap (λ y. run_first_model y caller) (arrive_in_front_stands h.rows h.sets caller turned.there few aside (low o.facts caller))
        ∙ (unfold arrive_in_front in (unfold stand in (run_first_stands (arrive_in_front h caller) (unfold arrive_in_front in (queued_front o.queued caller ready turned.there runs tt (low o.facts caller))) (unfold arrive_in_front in (rw (length_stand h.rows caller ready) few)))))

    rotates : run_first_model (arrive_model x caller) caller ≡ ran_of (run_first (arrive h caller ready))
    rotates = ap (λ y. run_first_model y caller) (arrive_stands h.rows h.sets caller turned.there few aside (low o.facts caller))
        ∙ (unfold arrive in (unfold stand in (run_first_stands (arrive h caller ready) (unfold arrive in (queued_arrive o.queued caller ready turned.there runs tt (low o.facts caller))) (unfold arrive in (rw (length_stand h.rows caller ready) few)))))

    chooses : (tick : Bool) (f : First) → first_at h ready ≡ f
        → cond (leb 16 (head_of f).priority) (ran x caller)
        (cond (ltb (priority h.rows caller) (head_of f).priority) (run_first_model (arrive_in_front_model x caller) caller)
        (cond (tick && eqb (priority h.rows caller) (head_of f).priority) (run_first_model (arrive_model x caller) caller) (ran x caller)))
        ≡ ran_of (cond (higher f (priority h.rows caller)) (run_first (arrive_in_front h caller)) (cond (tick && equal f (priority h.rows caller)) (run_first (arrive h caller ready)) h))
    chooses tick nobody e = rw (and_false tick) (unfold ran_of in refl)
    chooses tick (somebody p t) e = rw (lt-leb 16 p (first_queue 16 (set_at h.sets ready) p t e).0) (by_cases (ltb (priority h.rows caller) p)
        (λ y. rw y preempts)
        (λ y. rw y (by_cases (tick && eqb (priority h.rows caller) p)
        (λ z. rw z rotates)
        (λ z. rw z (unfold ran_of in refl)))))

  pub choose_next_stands : (tick : Bool) → choose_next_model (threads_of h.rows h.sets) h.rows.runner tick ≡ ran_of (choose_next tick h)
  unfolding choose_next_model choose_next
  choose_next_stands tick = rw (row, waits_code (thread h.rows caller).stands, head_ready h o.queued few) (by_cases (waits (thread h.rows caller).stands)
      (λ e. rw e (run_first_stands h o.queued few))
      (λ e. rw e (chooses (turned.either e) tick (first_at h ready) refl)))
