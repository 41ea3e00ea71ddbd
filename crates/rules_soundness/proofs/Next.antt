-- The choice of the next thread keeps soundness: whoever runs afterwards is the only one, and none is ready above it.
-- Assumes nothing.
use Prim.Native.Nat.{ℕ, ◌<◌, ◌≤◌}
use mathlib.Core.Path.{◌≡◌, refl, sym, ap, ◌∙◌}
use mathlib.Core.Bool.{Bool, true, false, cond, ◌&&◌, false≢true, true≢false}
use native.Mathlib.Nat.{le_trans}
use lib.ListN.{length}
use lib.Dec.{eqb}
use borrow.Author.Tests.{eqb-true, eqb-false, ltb-false}
use Rattle.laws.proofs.Bools.{by_cases, no_way, self}
use Rattle.rules.specs.Queues.{First, nobody, somebody}
use Rattle.rules.specs.State.{Where, running, ready, for_mutex, on_condition, same, waits, Rows, Sets, Scheduler, thread, at, priority, stand, first_at, arrive, arrive_in_front, depart}
use Rattle.rules.specs.Next.{run, run_first, higher, equal, choose_next}
use Rattle.rules_soundness.proofs.Rows.{at_stand, stands_stand, priority_stand, length_stand}
use Rattle.rules_soundness.proofs.Facts.{Facts, TiesEnd, Queued, Runs, low, facts_stand, ties_stand}
use Rattle.rules_soundness.proofs.Moves.{first_stands, first_exists, first_priority, first_highest, queued_leave, nobody_at, queued_arrive, queued_front}

-- what holds of the scheduler through a call
pub record Kept (h : Scheduler) : Type 0 where
  pub facts : Facts h.rows
  pub ties : TiesEnd h.rows
  pub queued : Queued h.rows h.sets

-- the caller runs or has begun to wait, and no other runs
pub record Turned (k : Rows) : Type 0 where
  pub there : k.runner < length k.threads
  pub only : (t : ℕ) → t < length k.threads → (thread k t).stands ≡ running → t ≡ k.runner
  pub either : waits (thread k k.runner).stands ≡ false → (thread k k.runner).stands ≡ running

-- ---- the facts do not ask who runs or whether it is started

module _ (k : Rows) (on : Bool) (r : ℕ) where
  abbrev pub handed : Rows
  handed = record { started = on; runner = r; threads = k.threads; mutexes = k.mutexes; ties = k.ties }

  pub facts_handed : Facts k → Facts handed
  unfolding at priority
  facts_handed f = record {
    some = f.some;
    few = f.few;
    few_mutexes = f.few_mutexes;
    few_ties = f.few_ties;
    zero_base = f.zero_base;
    bases = f.bases;
    bases_from_1 = f.bases_from_1;
    ceilings = f.ceilings;
    ceilings_from_1 = f.ceilings_from_1;
    idle = f.idle;
    idle_owns = f.idle_owns;
    real = f.real;
    free = f.free;
    uncounted = f.uncounted;
    held = λ m e. let h = f.held m e in record { exists = h.exists; some = h.some; most = h.most; base = h.base };
    waiter_apart = f.waiter_apart;
    waiter_below = f.waiter_below;
    waiters = λ c t e. let x = f.waiters c t e in record { exists = x.exists; free = x.free; base = x.base };
  }

  pub queued_handed : {s : Sets} → Queued k s → Queued handed s
  unfolding at priority
  queued_handed q = record { mutexes = q.mutexes; conditions = q.conditions; fits = λ w z. unfold at priority in (q.fits w z) }

-- ---- the first of the highest ready queue runs

-- thread 0 is ready where nobody runs
idle_ready : {k : Rows} → Facts k → ((thread k 0).stands ≡ running → ⊥) → at k ready 0 ≡ true
unfolding at same
idle_ready {k} f n = go (thread k 0).stands n f.idle
  where
    go : (w : Where) → (w ≡ running → ⊥) → waits w ≡ false → same w ready ≡ true
    go running a b = absurd (a refl)
    go ready a b = refl
    go (for_mutex m) a b = absurd (true≢false b)
    go (on_condition c) a b = absurd (true≢false b)

-- what a choice leaves: soundness, one thread that runs, and started and the ties' number as they were
pub record Chosen (h g : Scheduler) : Type 0 where
  pub kept : Kept g
  pub runs : Runs g.rows
  pub started : g.rows.started ≡ h.rows.started
  pub ties : length g.rows.ties ≡ length h.rows.ties

module _ {h : Scheduler} (o : Kept h) (none : (t : ℕ) → t < length h.rows.threads → (thread h.rows t).stands ≡ running → ⊥) where
  module _ (p t : ℕ) (e : first_at h ready ≡ somebody p t) where
    exists : t < length h.rows.threads
    exists = first_exists o.queued ready tt p t e

    stood : (c : ℕ) → at h.rows (on_condition c) t ≡ false
    unfolding at same
    stood c = rw (first_stands o.queued ready tt p t e)

    abbrev next : Rows
    next = handed (stand h.rows t running) h.rows.started t

    ready_before : (u : ℕ) → at next ready u ≡ true → at h.rows ready u ≡ true
    ready_before u z = go (eqb u t) (sym (at_stand h.rows t running ready u exists) ∙ (unfold at in z))
      where
        go : (y : Bool) → cond y (same running ready) (at h.rows ready u) ≡ true → at h.rows ready u ≡ true
        go true q = unfold same in (absurd (false≢true q))
        go false q = q

    as_before : (u : ℕ) → priority next u ≡ priority h.rows u
    as_before u = unfold priority in (unfold priority in (priority_stand h.rows t running u exists))

    runs_next : Runs next
    runs_next = record {
      there = rw (length_stand h.rows t running) exists;
      runs = stands_stand h.rows t running t exists ∙ rw (self t);
      only = λ u l z. only u (rw (length_stand h.rows t running) at l) (eqb u t) refl (sym (stands_stand h.rows t running u exists) ∙ z);
      top = λ u z. rw (as_before u, as_before t, first_priority o.queued ready tt p t e) (first_highest o.queued ready tt p t e u (ready_before u z));
    }
      where
        only : (u : ℕ) → u < length h.rows.threads → (y : Bool) → eqb u t ≡ y → cond y running (thread h.rows u).stands ≡ running → u ≡ t
        only u l true q z = eqb-true u t q
        only u l false q z = absurd (none u l z)

    somebody_runs : Chosen h (run h (somebody p t))
    unfolding run depart
    somebody_runs = record {
      kept = record {
        facts = unfold stand in (facts_handed (stand h.rows t running) h.rows.started t (facts_stand o.facts t running exists (λ z. absurd (false≢true z)) tt));
        ties = unfold stand at in (ties_stand h.rows o.ties t running exists stood);
        queued = unfold stand in (queued_handed (stand h.rows t running) h.rows.started t (queued_leave o.queued ready tt p t e));
      };
      runs = unfold stand in runs_next;
      started = unfold stand in refl;
      ties = unfold stand in refl;
    }

  chosen : (f : First) → first_at h ready ≡ f → Chosen h (run h f)
  chosen nobody e = no_way (at h.rows ready 0) (idle_ready o.facts (none 0 o.facts.some)) (nobody_at o.queued ready tt e 0)
  chosen (somebody p t) e = somebody_runs p t e

  pub first_runs : Chosen h (run_first h)
  unfolding run_first
  first_runs = chosen (first_at h ready) refl

-- ---- the rule of three

-- who was chosen after the caller went back to the ready queues was chosen
chosen_from : (h g : Scheduler) {i : Scheduler} → g.rows.started ≡ h.rows.started → length g.rows.ties ≡ length h.rows.ties → Chosen g i → Chosen h i
chosen_from h g a b c = record { kept = c.kept; runs = c.runs; started = c.started ∙ a; ties = c.ties ∙ b }

module _ {h : Scheduler} (o : Kept h) (t : Turned h.rows) where
  abbrev caller : ℕ
  caller = h.rows.runner

  -- the caller, which runs, goes back to the ready queues, and then nobody runs
  module _ (runs : (thread h.rows caller).stands ≡ running) where
    nobody_runs : (u : ℕ) → u < length (stand h.rows caller ready).threads → (thread (stand h.rows caller ready) u).stands ≡ running → ⊥
    nobody_runs u l z = go (eqb u caller) refl (sym (stands_stand h.rows caller ready u t.there) ∙ z)
      where
        go : (y : Bool) → eqb u caller ≡ y → cond y ready (thread h.rows u).stands ≡ running → ⊥
        go true q w = true≢false (unfold same in (ap (λ v. same v ready) w))
        go false q w = eqb-false u caller q (t.only u (rw (length_stand h.rows caller ready) at l) w)

    facts_back : Facts (stand h.rows caller ready)
    facts_back = facts_stand o.facts caller ready t.there (λ z. absurd (false≢true z)) tt

    ties_back : TiesEnd (stand h.rows caller ready)
    ties_back = ties_stand h.rows o.ties caller ready t.there (λ c. unfold at same in (rw runs))

    preempted : Chosen h (run_first (arrive_in_front h caller))
    unfolding arrive_in_front
    preempted = chosen_from h (arrive_in_front h caller) (unfold stand in refl) (unfold stand in refl)
        (first_runs (record { facts = facts_back; ties = ties_back; queued = queued_front o.queued caller ready t.there runs tt (low o.facts caller) }) nobody_runs)

    rotated : Chosen h (run_first (arrive h caller ready))
    unfolding arrive
    rotated = chosen_from h (arrive h caller ready) (unfold stand in refl) (unfold stand in refl)
        (first_runs (record { facts = facts_back; ties = ties_back; queued = queued_arrive o.queued caller ready t.there runs tt (low o.facts caller) }) nobody_runs)

    -- none is ready above the caller, which runs on
    goes_on : higher (first_at h ready) (priority h.rows caller) ≡ false → Chosen h h
    goes_on e = record { kept = o; runs = record { there = t.there; runs = runs; only = t.only; top = top (first_at h ready) refl e }; started = refl; ties = refl }
      where
        top : (f : First) → first_at h ready ≡ f → higher f (priority h.rows caller) ≡ false → (u : ℕ) → at h.rows ready u ≡ true → priority h.rows u ≤ priority h.rows caller
        top nobody i j u z = no_way (at h.rows ready u) z (nobody_at o.queued ready tt i u)
        top (somebody p v) i j u z = le_trans (first_highest o.queued ready tt p v i u z) (ltb-false (priority h.rows caller) p j)

  -- the caller waits, so that nobody runs
  waiting : waits (thread h.rows caller).stands ≡ true → Chosen h (run_first h)
  waiting e = first_runs o (λ u l z. true≢false (sym e ∙ ap waits (ap (λ v. (thread h.rows v).stands) (sym (t.only u l z)) ∙ z)))

  pub next_chosen : (at_tick : Bool) → Chosen h (choose_next at_tick h)
  unfolding choose_next
  next_chosen at_tick = by_cases (waits (thread h.rows caller).stands)
      (λ e. rw e (waiting e))
      (λ e. rw e (by_cases (higher (first_at h ready) (priority h.rows caller))
      (λ y. rw y (preempted (t.either e)))
      (λ y. rw y (by_cases (at_tick && equal (first_at h ready) (priority h.rows caller))
      (λ z. rw z (rotated (t.either e)))
      (λ z. rw z (goes_on (t.either e) y))))))
