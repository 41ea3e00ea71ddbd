-- Creating a thread, a mutex or a condition variable keeps soundness.
-- Assumes nothing.
use Prim.Native.Nat.{ℕ, zero, suc, ◌<◌, ◌≤◌, max}
use mathlib.Core.Path.{◌≡◌, refl, sym, ap, ◌∙◌, subst}
use mathlib.Core.Bool.{Bool, true, false, cond, false≢true, true≢false}
use mathlib.Core.List.{List, [], ◌∷◌, ◌++◌}
use native.Mathlib.Omega.{arith}
use native.Mathlib.Nat.{lt_irrefl}
use lib.ListN.{length, get_or, length-append, get_or-eq_default}
use lib.Dec.{eqb, eqb-zero-suc, eqb-suc-zero, eqb-suc-suc}
use borrow.Author.Tests.{eqb-true, eqb-false, ne_eqb}
use Rattle.laws.proofs.Bools.{by_cases, no_way, refuted, self}
use Rattle.rules.specs.Queues.{QueueSet, empty_set}
use Rattle.rules.specs.State.{Where, running, ready, for_mutex, on_condition, same, waits, Thread, Mutex, Rows, Sets, Scheduler, no_thread, no_mutex, thread, mutex, tied, at, highest_ceiling, priority, with_threads, with_mutexes, with_ties, stand, set_at, arrive}
use Rattle.rules.specs.Effects.{thread_created, mutex_created, condition_created}
use Rattle.rules_soundness.proofs.Fits.{Fits, fits_frame, fits_empty}
use Rattle.rules_soundness.proofs.Rows.{Real, not_running, standing_exists, same_true, at_stand, priority_stand}
use Rattle.rules_soundness.proofs.Facts.{Apart, Held, Waiter, Facts, TiesEnd, Queued, low, facts_stand, ties_stand}
use Rattle.rules_soundness.proofs.Next.{Kept}
use Rattle.rules_soundness.proofs.Calls.{Going, going_stand, queued_lands}

-- one row more in a table
module _ {A : Type 0} where
  pub get_or_more : (l : List A) (x d : A) (u : ℕ) → get_or (l ++ (x ∷ [])) u d ≡ cond (eqb u (length l)) x (get_or l u d)
  get_or_more [] x d zero = refl
  get_or_more [] x d (suc u) = rw (eqb-suc-zero u)
  get_or_more (y ∷ l) x d zero = rw (eqb-zero-suc (length l))
  get_or_more (y ∷ l) x d (suc u) = rw (eqb-suc-suc u (length l)) (get_or_more l x d u)

  pub length_more : (l : List A) (x : A) → length (l ++ (x ∷ [])) ≡ suc (length l)
  length_more l x = length-append l (x ∷ []) ∙ omega arith

-- ---- a thread

module _ (k : Rows) (b : ℕ) where
  abbrev pub with_thread : Rows
  with_thread = with_threads k (k.threads ++ (record { base = b; stands = ready } ∷ []))

  abbrev new : ℕ
  new = length k.threads

  pub thread_more : (u : ℕ) → thread with_thread u ≡ cond (eqb u new) (record { base = b; stands = ready }) (thread k u)
  thread_more u = get_or_more k.threads (record { base = b; stands = ready }) no_thread u

  pub old_thread : (u : ℕ) → (u ≡ new → ⊥) → thread with_thread u ≡ thread k u
  old_thread u n = thread_more u ∙ rw (ne_eqb u new n)

  pub old_priority : (u : ℕ) → (u ≡ new → ⊥) → priority with_thread u ≡ priority k u
  unfolding priority
  old_priority u n = ap (λ (x : Thread). max x.base (highest_ceiling k.mutexes u)) (old_thread u n)

  -- the new one was nowhere
  pub new_nowhere : (w : Where) → same running w ≡ false → at k w new ≡ false
  new_nowhere w n = refuted (at k w new) (λ e. lt_irrefl new (standing_exists k w new n e))

  -- by who stands there: the new one, which is ready, or another as before
  new_or_old : {X : Type 0} (w : Where) (u : ℕ) → at with_thread w u ≡ true → (u ≡ new → ready ≡ w → X) → ((u ≡ new → ⊥) → at k w u ≡ true → X) → X
  unfolding at
  new_or_old {X} w u e x y = go (eqb u new) refl (sym (ap (λ (z : Thread). same z.stands w) (thread_more u)) ∙ e)
    where
      go : (z : Bool) → eqb u new ≡ z → same (cond z (record { base = b; stands = ready }) (thread k u)).stands w ≡ true → X
      go true q i = x (eqb-true u new q) (same_true ready w i)
      go false q i = y (eqb-false u new q) i

  module _ (f : Facts k) (room : new < 32) (some : 1 ≤ b) (most : b ≤ 15) where
    pub facts_thread : Facts with_thread
    facts_thread = record {
      some = rw (length_more k.threads (record { base = b; stands = ready })) (omega arith);
      few = rw (length_more k.threads (record { base = b; stands = ready })) (omega arith);
      few_mutexes = f.few_mutexes;
      few_ties = f.few_ties;
      zero_base = ap (λ (x : Thread). x.base) (old_thread 0 not_zero) ∙ f.zero_base;
      bases = λ u. rw (thread_more u) (by_cases (eqb u new) (λ e. rw e (omega arith)) (λ e. rw e (f.bases u)));
      bases_from_1 = λ u z l. rw (thread_more u) (by_cases (eqb u new) (λ e. rw e some) (λ e. rw e (f.bases_from_1 u z (below u l (eqb-false u new e)))));
      ceilings = f.ceilings;
      ceilings_from_1 = f.ceilings_from_1;
      idle = ap (λ (x : Thread). waits x.stands) (old_thread 0 not_zero) ∙ f.idle;
      idle_owns = f.idle_owns;
      real = λ w u n e. new_or_old w u e (λ i j. subst (Real k) j tt) (λ i z. f.real w u n z);
      free = λ m u e. refuted (at with_thread (for_mutex m) u) (λ y. new_or_old (for_mutex m) u y (λ i j. not_ready (for_mutex m) refl j) (λ i z. no_way (at k (for_mutex m) u) z (f.free m u e)));
      uncounted = f.uncounted;
      held = λ m e. still (mutex k m) (f.held m e);
      waiter_apart = λ m u e. new_or_old (for_mutex m) u e (λ i j. not_ready (for_mutex m) refl j) (λ i z. f.waiter_apart m u z);
      waiter_below = λ m u e. new_or_old (for_mutex m) u e (λ i j. not_ready (for_mutex m) refl j) (λ i z. rw (old_priority u i) (f.waiter_below m u z));
      waiters = λ c u e. new_or_old (on_condition c) u e (λ i j. not_ready (on_condition c) refl j) (λ i z. waiting c u i (f.waiters c u z));
    }
      where
        not_zero : 0 ≡ new → ⊥
        not_zero e = omega (arith, f.some, e)

        below : (u : ℕ) → u < length (k.threads ++ (record { base = b; stands = ready } ∷ [])) → (u ≡ new → ⊥) → u < new
        below u l n = omega (arith, rw (length_more k.threads (record { base = b; stands = ready })) at l, n)

        not_ready : {X : Type 0} (w : Where) → waits w ≡ true → ready ≡ w → X
        not_ready w z e = absurd (false≢true (ap waits e ∙ z))

        still : (x : Mutex) → Held k x → Held with_thread x
        still x h = record {
          exists = rw (length_more k.threads (record { base = b; stands = ready })) (omega (arith, h.exists));
          some = h.some;
          most = h.most;
          base = rw (old_thread x.owner (λ e. omega (arith, h.exists, e))) h.base;
        }

        waiting : (c u : ℕ) → (u ≡ new → ⊥) → Waiter k c u → Waiter with_thread c u
        waiting c u n x = record { exists = x.exists; free = x.free; base = rw (old_thread u n) x.base }

    pub new_exists : new < length with_thread.threads
    new_exists = rw (length_more k.threads (record { base = b; stands = ready })) (omega arith)

    pub aside_thread : {s : Sets} → Queued k s → Queued (stand with_thread new running) s
    aside_thread {s} q = record { mutexes = unfold stand in q.mutexes; conditions = unfold stand in q.conditions; fits = λ w r. unfold stand in (go w (unfold stand in r)) }
      where
        there : (w : Where) → Real k w → (u : ℕ) → at (stand with_thread new running) w u ≡ at k w u
        there w r u = at_stand with_thread new running w u new_exists ∙ by_cases (eqb u new)
            (λ y. rw (y, eqb-true u new y) (n ∙ sym (new_nowhere w n)))
            (λ y. rw y (unfold at in (ap (λ (z : Thread). same z.stands w) (old_thread u (eqb-false u new y)))))
          where
            n : same running w ≡ false
            n = not_running (length k.mutexes) (length k.ties) w r

        prio : (w : Where) → Real k w → (u : ℕ) → at k w u ≡ true → priority (stand with_thread new running) u ≡ priority k u
        prio w r u e = priority_stand with_thread new running u new_exists ∙ old_priority u (λ z. no_way (at k w u) e (rw z (new_nowhere w (not_running (length k.mutexes) (length k.ties) w r))))

        go : (w : Where) → Real k w → Fits (at (stand with_thread new running) w) (priority (stand with_thread new running)) Apart (set_at s w)
        go w r = fits_frame (q.fits w r) (there w r) (prio w r) (λ u v a b z. z)

  pub going_thread : Facts k → Going k → Going (stand with_thread new ready)
  going_thread f g = going_stand now new ready (rw (length_more k.threads (record { base = b; stands = ready })) (omega arith)) not_caller (λ z. true≢false (unfold same in (ap (λ v. same v ready) z)))
    where
      not_caller : new ≡ k.runner → ⊥
      not_caller e = omega (arith, g.there, e)

      now : Going with_thread
      now = record {
        there = rw (length_more k.threads (record { base = b; stands = ready })) (omega (arith, g.there));
        runs = ap (λ (x : Thread). x.stands) (old_thread k.runner (λ e. not_caller (sym e))) ∙ g.runs;
        only = λ u l e. go u l (eqb u new) refl (sym (ap (λ (x : Thread). x.stands) (thread_more u)) ∙ e);
      }
        where
          go : (u : ℕ) → u < length with_thread.threads → (y : Bool) → eqb u new ≡ y → (cond y (record { base = b; stands = ready }) (thread k u)).stands ≡ running → u ≡ k.runner
          go u l true q e = absurd (true≢false (unfold same in (ap (λ v. same v ready) e)))
          go u l false q e = g.only u (omega (arith, rw (length_more k.threads (record { base = b; stands = ready })) at l, eqb-false u new q)) e

pub kept_thread : {h : Scheduler} → Kept h → (b : ℕ) → length h.rows.threads < 32 → 1 ≤ b → b ≤ 15 → Kept (thread_created h b)
unfolding thread_created arrive
kept_thread {h} o b room some most = record {
  facts = facts_stand now new_id ready exists (λ z. absurd (false≢true z)) tt;
  ties = ties_stand (with_thread h.rows b) ends new_id ready exists (λ c. at_new c);
  queued = queued_lands (with_thread h.rows b) new_id ready (aside_thread h.rows b o.facts room some most o.queued) exists tt (low now new_id);
}
  where
    new_id : ℕ
    new_id = length h.rows.threads

    now : Facts (with_thread h.rows b)
    now = facts_thread h.rows b o.facts room some most

    exists : length h.rows.threads < length (with_thread h.rows b).threads
    exists = new_exists h.rows b o.facts room some most

    at_new : (c : ℕ) → at (with_thread h.rows b) (on_condition c) (length h.rows.threads) ≡ false
    at_new c = unfold at same in (rw (thread_more h.rows b (length h.rows.threads), self (length h.rows.threads)))

    ends : TiesEnd (with_thread h.rows b)
    ends c none = o.ties c (λ u. by_cases (eqb u (length h.rows.threads))
        (λ y. rw (eqb-true u (length h.rows.threads) y) (new_nowhere h.rows b (on_condition c) (unfold same in refl)))
        (λ y. sym (alike c u (eqb-false u (length h.rows.threads) y)) ∙ none u))
      where
        alike : (d u : ℕ) → (u ≡ length h.rows.threads → ⊥) → at (with_thread h.rows b) (on_condition d) u ≡ at h.rows (on_condition d) u
        alike d u n = unfold at in (ap (λ (z : Thread). same z.stands (on_condition d)) (old_thread h.rows b u n))

-- ---- a mutex

module _ (k : Rows) (c : ℕ) where
  abbrev pub with_mutex : Rows
  with_mutex = with_mutexes k (k.mutexes ++ (record { ceiling = c; owner = 255; count = 0 } ∷ []))

  abbrev last : ℕ
  last = length k.mutexes

  pub mutex_more : (m : ℕ) → mutex with_mutex m ≡ cond (eqb m last) (record { ceiling = c; owner = 255; count = 0 }) (mutex k m)
  mutex_more m = get_or_more k.mutexes (record { ceiling = c; owner = 255; count = 0 }) no_mutex m

  pub old_mutex : (m : ℕ) → (m ≡ last → ⊥) → mutex with_mutex m ≡ mutex k m
  old_mutex m n = mutex_more m ∙ rw (ne_eqb m last n)

  pub same_owner : (m : ℕ) → (mutex with_mutex m).owner ≡ (mutex k m).owner
  same_owner m = ap (λ (x : Mutex). x.owner) (mutex_more m) ∙ by_cases (eqb m last)
      (λ e. rw (e, eqb-true m last e) (sym (ap (λ (x : Mutex). x.owner) (get_or-eq_default k.mutexes no_mutex {n = last} (omega arith)))))
      (λ e. rw e)

  highest_more : (ms : List Mutex) (u : ℕ) → (u ≡ 255 → ⊥) → highest_ceiling (ms ++ (record { ceiling = c; owner = 255; count = 0 } ∷ [])) u ≡ highest_ceiling ms u
  unfolding highest_ceiling
  highest_more [] u n = rw (ne_eqb 255 u (λ e. n (sym e)))
  highest_more (x ∷ ms) u n = ap (max (cond (eqb x.owner u) x.ceiling 0)) (highest_more ms u n)

  pub same_priority : (u : ℕ) → (u ≡ 255 → ⊥) → priority with_mutex u ≡ priority k u
  unfolding priority
  same_priority u n = ap (max (thread k u).base) (highest_more k.mutexes u n)

  module _ (f : Facts k) (room : last < 16) (some : 1 ≤ c) (most : c ≤ 15) where
    real_more : (w : Where) → Real k w → Real with_mutex w
    real_more running r = r
    real_more ready r = r
    real_more (for_mutex m) r = rw (length_more k.mutexes (record { ceiling = c; owner = 255; count = 0 })) (omega arith)
    real_more (on_condition d) r = r

    -- nobody waits for the new one
    none_waits : (u : ℕ) → at k (for_mutex last) u ≡ false
    none_waits u = refuted (at k (for_mutex last) u) (λ e. lt_irrefl last (f.real (for_mutex last) u (unfold same in refl) e))

    exists_low : (w : Where) (u : ℕ) → same running w ≡ false → at k w u ≡ true → u ≡ 255 → ⊥
    exists_low w u n e z = omega (arith, standing_exists k w u n e, f.few, z)

    facts_mutex : Facts with_mutex
    unfolding at same
    facts_mutex = record {
      some = f.some;
      few = f.few;
      few_mutexes = rw (length_more k.mutexes (record { ceiling = c; owner = 255; count = 0 })) (omega arith);
      few_ties = f.few_ties;
      zero_base = f.zero_base;
      bases = f.bases;
      bases_from_1 = f.bases_from_1;
      ceilings = λ m. rw (mutex_more m) (by_cases (eqb m last) (λ e. rw e (omega arith)) (λ e. rw e (f.ceilings m)));
      ceilings_from_1 = λ m l. rw (mutex_more m) (by_cases (eqb m last) (λ e. rw e some) (λ e. rw e (f.ceilings_from_1 m (below m l (eqb-false m last e)))));
      idle = f.idle;
      idle_owns = λ m e. f.idle_owns m (sym (same_owner m) ∙ e);
      real = λ w u n e. real_more w (f.real w u n e);
      free = λ m u e. f.free m u (sym (same_owner m) ∙ e);
      uncounted = λ m e. rw (mutex_more m) (by_cases (eqb m last) (λ y. rw y) (λ y. rw y (f.uncounted m (sym (same_owner m) ∙ e))));
      held = λ m e. still m (f.held m (λ z. e (same_owner m ∙ z)));
      waiter_apart = λ m u e z. f.waiter_apart m u e (z ∙ same_owner m);
      waiter_below = λ m u e. rw (same_priority u (exists_low (for_mutex m) u refl e), ceiling m (f.real (for_mutex m) u refl e)) (f.waiter_below m u e);
      waiters = λ d u e. waiting d u (f.waiters d u e);
    }
      where
        below : (m : ℕ) → m < length with_mutex.mutexes → (m ≡ last → ⊥) → m < last
        below m l n = omega (arith, rw (length_more k.mutexes (record { ceiling = c; owner = 255; count = 0 })) at l, n)

        ceiling : (m : ℕ) → m < last → (mutex with_mutex m).ceiling ≡ (mutex k m).ceiling
        ceiling m l = ap (λ (x : Mutex). x.ceiling) (old_mutex m (λ e. omega (arith, l, e)))

        still : (m : ℕ) → Held k (mutex k m) → Held with_mutex (mutex with_mutex m)
        still m h = rw (old_mutex m not_last) (record { exists = h.exists; some = h.some; most = h.most; base = h.base })
          where
            unowned : (mutex k last).owner ≡ 255
            unowned = ap (λ (x : Mutex). x.owner) (get_or-eq_default k.mutexes no_mutex {n = last} (omega arith))

            not_last : m ≡ last → ⊥
            not_last e = omega (arith, h.exists, f.few, ap (λ i. (mutex k i).owner) e ∙ unowned)

        waiting : (d u : ℕ) → Waiter k d u → Waiter with_mutex d u
        waiting d u x = record {
          exists = rw (length_more k.mutexes (record { ceiling = c; owner = 255; count = 0 })) (omega (arith, x.exists));
          free = λ m e. x.free m (sym (same_owner m) ∙ e);
          base = rw (ceiling (tied k d) x.exists) x.base;
        }

pub kept_mutex : {h : Scheduler} → Kept h → (c : ℕ) → length h.rows.mutexes < 16 → 1 ≤ c → c ≤ 15 → Kept (mutex_created h c)
unfolding mutex_created
kept_mutex {h} o c room some most = record {
  facts = facts_mutex h.rows c o.facts room some most;
  ties = unfold at in o.ties;
  queued = record {
    mutexes = length_more h.sets.mutex empty_set ∙ ap suc o.queued.mutexes ∙ sym (length_more h.rows.mutexes (record { ceiling = c; owner = 255; count = 0 }));
    conditions = o.queued.conditions;
    fits = fits;
  };
}
  where
    as_before : (w : Where) {qs : QueueSet} → same running w ≡ false → Fits (at h.rows w) (priority h.rows) Apart qs → Fits (at (with_mutex h.rows c) w) (priority (with_mutex h.rows c)) Apart qs
    as_before w n f = fits_frame f (λ u. unfold at in refl) (λ u e. same_priority h.rows c u (exists_low h.rows c o.facts room some most w u n e)) (λ u v a b z. z)

    fits : (w : Where) → Real (with_mutex h.rows c) w → Fits (at (with_mutex h.rows c) w) (priority (with_mutex h.rows c)) Apart (set_at (mutex_created h c).sets w)
    fits running r = absurd r
    fits ready r = unfold set_at mutex_created in (as_before ready (unfold same in refl) (unfold set_at in (o.queued.fits ready tt)))
    fits (for_mutex m) r = unfold set_at mutex_created in (rw (get_or_more h.sets.mutex empty_set empty_set m, o.queued.mutexes) (by_cases (eqb m (length h.rows.mutexes))
        (λ y. rw y (fits_empty (λ u. rw (eqb-true m (length h.rows.mutexes) y) (unfold at in (unfold at in (none_waits h.rows c o.facts room some most u))))))
        (λ y. rw y (as_before (for_mutex m) (unfold same in refl) (unfold set_at in (o.queued.fits (for_mutex m) (below m r (eqb-false m (length h.rows.mutexes) y))))))))
      where
        below : (m : ℕ) → m < length (with_mutex h.rows c).mutexes → (m ≡ length h.rows.mutexes → ⊥) → m < length h.rows.mutexes
        below m l n = omega (arith, rw (length_more h.rows.mutexes (record { ceiling = c; owner = 255; count = 0 })) at l, n)
    fits (on_condition d) r = unfold set_at mutex_created in (as_before (on_condition d) (unfold same in refl) (unfold set_at in (o.queued.fits (on_condition d) r)))

-- ---- a condition variable

module _ (k : Rows) where
  abbrev pub with_condition : Rows
  with_condition = with_ties k (k.ties ++ (255 ∷ []))

  pub same_tied : (c : ℕ) → tied with_condition c ≡ tied k c
  same_tied c = get_or_more k.ties 255 255 c ∙ by_cases (eqb c (length k.ties))
      (λ e. rw (e, eqb-true c (length k.ties) e) (sym (get_or-eq_default k.ties 255 {n = length k.ties} (omega arith))))
      (λ e. rw e)

  facts_condition : Facts k → length k.ties < 16 → Facts with_condition
  unfolding at priority
  facts_condition f room = record {
    some = f.some;
    few = f.few;
    few_mutexes = f.few_mutexes;
    few_ties = rw (length_more k.ties 255) (omega arith);
    zero_base = f.zero_base;
    bases = f.bases;
    bases_from_1 = f.bases_from_1;
    ceilings = f.ceilings;
    ceilings_from_1 = f.ceilings_from_1;
    idle = f.idle;
    idle_owns = f.idle_owns;
    real = λ w u n e. more w (f.real w u n e);
    free = f.free;
    uncounted = f.uncounted;
    held = λ m e. let h = f.held m e in record { exists = h.exists; some = h.some; most = h.most; base = h.base };
    waiter_apart = f.waiter_apart;
    waiter_below = f.waiter_below;
    waiters = λ c u e. let x = f.waiters c u e in record { exists = rw (same_tied c) x.exists; free = x.free; base = rw (same_tied c) x.base };
  }
    where
      more : (w : Where) → Real k w → Real with_condition w
      more running r = r
      more ready r = r
      more (for_mutex m) r = r
      more (on_condition c) r = rw (length_more k.ties 255) (omega arith)

pub kept_condition : {h : Scheduler} → Kept h → length h.rows.ties < 16 → Kept (condition_created h)
unfolding condition_created
kept_condition {h} o room = record {
  facts = facts_condition h.rows o.facts room;
  ties = λ c none. same_tied h.rows c ∙ o.ties c (nobody c none);
  queued = record {
    mutexes = o.queued.mutexes;
    conditions = length_more h.sets.condition empty_set ∙ ap suc o.queued.conditions ∙ sym (length_more h.rows.ties 255);
    fits = fits;
  };
}
  where
    nobody : (c : ℕ) → ((u : ℕ) → at (with_condition h.rows) (on_condition c) u ≡ false) → (u : ℕ) → at h.rows (on_condition c) u ≡ false
    nobody c none = unfold at in none

    as_before : (w : Where) {qs : QueueSet} → Fits (at h.rows w) (priority h.rows) Apart qs → Fits (at (with_condition h.rows) w) (priority (with_condition h.rows)) Apart qs
    as_before w f = unfold at priority in f

    none : (u : ℕ) → at h.rows (on_condition (length h.rows.ties)) u ≡ false
    none u = refuted (at h.rows (on_condition (length h.rows.ties)) u) (λ e. lt_irrefl (length h.rows.ties) (o.facts.real (on_condition (length h.rows.ties)) u (unfold same in refl) e))

    fits : (w : Where) → Real (with_condition h.rows) w → Fits (at (with_condition h.rows) w) (priority (with_condition h.rows)) Apart (set_at (condition_created h).sets w)
    fits running r = absurd r
    fits ready r = unfold set_at condition_created in (as_before ready (unfold set_at in (o.queued.fits ready tt)))
    fits (for_mutex m) r = unfold set_at condition_created in (as_before (for_mutex m) (unfold set_at in (o.queued.fits (for_mutex m) r)))
    fits (on_condition c) r = unfold set_at condition_created in (rw (get_or_more h.sets.condition empty_set empty_set c, o.queued.conditions) (by_cases (eqb c (length h.rows.ties))
        (λ y. rw y (fits_empty (λ u. rw (eqb-true c (length h.rows.ties) y) (unfold at in (unfold at in (none u))))))
        (λ y. rw y (as_before (on_condition c) (unfold set_at in (o.queued.fits (on_condition c) (below c r (eqb-false c (length h.rows.ties) y))))))))
      where
        below : (c : ℕ) → c < length (with_condition h.rows).ties → (c ≡ length h.rows.ties → ⊥) → c < length h.rows.ties
        below c l n = omega (arith, rw (length_more h.rows.ties 255) at l, n)
