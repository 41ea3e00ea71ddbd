-- The effects of the calls on mutexes and condition variables keep soundness.
-- Assumes nothing.
use Prim.Native.Nat.{ℕ, zero, suc, ◌+◌, ◌-◌, ◌<◌, ◌≤◌}
use mathlib.Core.Path.{◌≡◌, refl, sym, ap, ◌∙◌, subst}
use mathlib.Core.Bool.{Bool, true, false, cond, false≢true, true≢false}
use mathlib.Core.List.{List, [], ◌∷◌}
use native.Mathlib.Omega.{arith}
use native.Mathlib.Nat.{le_trans}
use lib.ListN.{length, get_or, get_or-eq_default}
use lib.Dec.{eqb, ltb}
use borrow.Author.Tests.{eqb-true, eqb-false, eq-eqb, ne_eqb, ltb-true, le-ltb}
use Rattle.laws.proofs.Bools.{by_cases, no_way, self}
use Rattle.rules.specs.Queues.{First, nobody, somebody, to_back}
use Rattle.rules.specs.State.{Where, running, ready, for_mutex, on_condition, same, waits, Thread, Mutex, Rows, Sets, Scheduler, no_thread, no_mutex, thread, mutex, tied, at, priority, owned, with_rows, stand, own, tie, set_at, put_set, first_at, arrive, depart}
use Rattle.rules.specs.Effects.{acquired, passed_to, released, waited, woken, untied, signalled_to, signalled, signalled_times, signalled_each}
use Rattle.rules_soundness.proofs.Rows.{same_self, Real, at_stand, base_stand, stands_stand, priority_stand, length_stand, owner_own, ceiling_own, length_own, tied_tie, length_tie, owned_none, priority_base, base_below}
use Rattle.rules_soundness.proofs.Facts.{Held, Waiter, Facts, TiesEnd, Queued, low, Enters, facts_stand, ties_stand, facts_own, ties_own, facts_tie, ties_tie}
use Rattle.rules_soundness.proofs.Moves.{first_at_lem, first_stands, first_exists, queued_leave, nobody_at, queued_arrive, queued_own, queued_tie, stand_stand}
use Rattle.rules_soundness.proofs.Next.{Kept, Turned}

-- the caller runs, and no other
pub record Going (k : Rows) : Type 0 where
  pub there : k.runner < length k.threads
  pub runs : (thread k k.runner).stands ≡ running
  pub only : (t : ℕ) → t < length k.threads → (thread k t).stands ≡ running → t ≡ k.runner

pub turned_going : {k : Rows} → Going k → Turned k
turned_going g = record { there = g.there; only = g.only; either = λ e. g.runs }

-- what an effect leaves: soundness, the caller as it is said, and started, the caller's id and the ties' number as they were
pub record Left (P : Rows → Type 0) (h g : Scheduler) : Type 0 where
  pub kept : Kept g
  pub caller : P g.rows
  pub started : g.rows.started ≡ h.rows.started
  pub runner : g.rows.runner ≡ h.rows.runner
  pub ties : length g.rows.ties ≡ length h.rows.ties

pub left_turned : {h g : Scheduler} → Left Going h g → Left Turned h g
left_turned l = record { kept = l.kept; caller = turned_going l.caller; started = l.started; runner = l.runner; ties = l.ties }

pub left_trans : {P : Rows → Type 0} (h g : Scheduler) {i : Scheduler} → Left Going h g → Left P g i → Left P h i
left_trans h g a b = record { kept = b.kept; caller = b.caller; started = b.started ∙ a.started; runner = b.runner ∙ a.runner; ties = b.ties ∙ a.ties }

-- ---- small facts

-- 255 is no thread: it stands nowhere
pub nobody_255 : {k : Rows} → Facts k → (thread k 255).stands ≡ running
nobody_255 {k} f = ap (λ (x : Thread). x.stands) (get_or-eq_default k.threads no_thread (omega (arith, f.few)))

-- who stands where one waits is not thread 0, and not one who runs
pub waiter_not_0 : {k : Rows} → Facts k → (t : ℕ) (w : Where) → (thread k t).stands ≡ w → waits w ≡ true → t ≡ 0 → ⊥
waiter_not_0 {k} f t w e z q = no_way (waits w) z (ap waits (sym e) ∙ ap (λ v. waits (thread k v).stands) q ∙ f.idle)

pub waiter_not_caller : {k : Rows} → Going k → (t : ℕ) (w : Where) → (thread k t).stands ≡ w → waits w ≡ true → t ≡ k.runner → ⊥
waiter_not_caller {k} g t w e z q = no_way (waits w) z (ap waits (sym e ∙ ap (λ v. (thread k v).stands) q ∙ g.runs))

-- another than the caller stands elsewhere
pub going_stand : {k : Rows} → Going k → (t : ℕ) (w : Where) → t < length k.threads → (t ≡ k.runner → ⊥) → (w ≡ running → ⊥) → Going (stand k t w)
going_stand {k} g t w there n z = record {
  there = unfold stand in (rw (length_stand k t w) g.there);
  runs = unfold stand in (stands_stand k t w k.runner there ∙ rw (ne_eqb k.runner t (λ e. n (sym e))) g.runs);
  only = λ u l e. unfold stand in (go u (rw (length_stand k t w) at l) (eqb u t) (sym (stands_stand k t w u there) ∙ e));
}
  where
    go : (u : ℕ) → u < length k.threads → (y : Bool) → cond y w (thread k u).stands ≡ running → u ≡ k.runner
    go u l true e = absurd (z e)
    go u l false e = g.only u l e

pub going_own : {k : Rows} → Going k → (m t n : ℕ) → Going (own k m t n)
unfolding own
going_own g m t n = record { there = g.there; runs = g.runs; only = g.only }

pub going_tie : {k : Rows} → Going k → (c m : ℕ) → Going (tie k c m)
unfolding tie
going_tie g c m = record { there = g.there; runs = g.runs; only = g.only }

-- a thread stands where it was put
pub stands_there : (k : Rows) (t : ℕ) (w : Where) → t < length k.threads → (thread (stand k t w) t).stands ≡ w
stands_there k t w there = stands_stand k t w t there ∙ rw (self t)

-- the caller stands where it waits
pub turned_waits : {k : Rows} → Going k → (w : Where) → waits w ≡ true → Turned (stand k k.runner w)
turned_waits {k} x w z = record {
  there = unfold stand in (rw (length_stand k k.runner w) x.there);
  only = λ u l e. unfold stand in (go u (rw (length_stand k k.runner w) at l) (eqb u k.runner) refl (sym (stands_stand k k.runner w u x.there) ∙ e));
  either = λ e. no_way (waits w) z (sym (ap waits itself) ∙ e);
}
  where
    itself : (thread (stand k k.runner w) (stand k k.runner w).runner).stands ≡ w
    itself = unfold stand in (stands_there k k.runner w x.there)

    go : (u : ℕ) → u < length k.threads → (y : Bool) → eqb u k.runner ≡ y → cond y w (thread k u).stands ≡ running → u ≡ k.runner
    go u l true q e = eqb-true u k.runner q
    go u l false q e = x.only u l e

-- ---- a thread that is in no queue arrives

-- t stood somewhere before, has left its queue, and now arrives at w
pub queued_lands : (k : Rows) {s : Sets} (t : ℕ) (w : Where) → Queued (stand k t running) s → t < length k.threads → Real k w → priority k t < 16
    → Queued (stand k t w) (put_set s w (to_back (set_at s w) (priority k t) t))
queued_lands k {s} t w q there r l =
    subst (λ x. Queued x (put_set s w (to_back (set_at s w) (priority k t) t))) (stand_stand k t running w there)
    (subst (λ p. Queued (stand (stand k t running) t w) (put_set s w (to_back (set_at s w) p t))) (priority_stand k t running t there)
    (queued_arrive q t w (rw (length_stand k t running) there) (stands_there k t running there) (unfold stand in r) (rw (priority_stand k t running t there) l)))

-- whoever waits for nothing still waits for nothing when another is made ready
calm : (k : Rows) (t u : ℕ) → t < length k.threads → waits (thread k u).stands ≡ false → waits (thread (stand k t ready) u).stands ≡ false
calm k t u there e = rw (stands_stand k t ready u there) (by_cases (eqb u t) (λ y. rw y) (λ y. rw (y, e)))

-- whoever stands nowhere still does when another is put nowhere
nowhere : (k : Rows) (t u : ℕ) → t < length k.threads → (thread k u).stands ≡ running → (thread (stand k t running) u).stands ≡ running
nowhere k t u there e = rw (stands_stand k t running u there) (by_cases (eqb u t) (λ y. rw y) (λ y. rw (y, e)))

-- thread t, which has left the queue it waited in, becomes owner of m with count 1 and is ready
module _ {k : Rows} (f : Facts k) (m t : ℕ) (real : m < length k.mutexes) (exists : t < length k.threads) (waited : waits (thread k t).stands ≡ true)
    (old : (thread k (mutex k m).owner).stands ≡ running) (fits : (thread k t).base ≤ (mutex k m).ceiling) where
  pub facts_taken : Facts (stand (own k m t 1) t ready)
  facts_taken = unfold own stand in (facts_own (facts_stand f t ready exists (λ z. absurd (false≢true z)) tt) m t 1 (unfold stand in real)
      (unfold stand in (calm k t (mutex k m).owner exists (rw old)))
      (rw (stands_stand k t ready t exists, self t))
      (waiter_not_0 f t (thread k t).stands refl waited)
      (λ z. absurd (omega (arith, z, exists, f.few)))
      (λ z. unfold stand in record { exists = rw (length_stand k t ready) exists; some = omega arith; most = omega arith; base = rw (base_stand k t ready t exists) fits }))

  -- owning moves no queue while t is in none
  pub aside_taken : {s : Sets} → Queued (stand k t running) s → Queued (stand (own k m t 1) t running) s
  aside_taken q = unfold own stand in (queued_own q m t 1 (unfold stand in (nowhere k t (mutex k m).owner exists old)) (stands_there k t running exists))

  pub low_taken : priority (own k m t 1) t < 16
  low_taken = subst (λ p. p < 16) (priority_stand (own k m t 1) t ready t (unfold own in exists)) (low facts_taken t)

  pub queued_taken : {s : Sets} → Queued (stand k t running) s → Queued (stand (own k m t 1) t ready) (put_set s ready (to_back (set_at s ready) (priority (own k m t 1) t) t))
  queued_taken q = queued_lands (own k m t 1) t ready (aside_taken q) (unfold own in exists) tt low_taken

-- ---- 6 and 7

-- mutex m goes to nobody or to its highest, earliest waiter
module _ {h : Scheduler} (o : Kept h) (g : Going h.rows) (m : ℕ) (real : m < length h.rows.mutexes) (mine : (mutex h.rows m).owner ≡ h.rows.runner) where
  owner_runs : (thread h.rows (mutex h.rows m).owner).stands ≡ running
  owner_runs = rw mine g.runs

  left_passed : (f : First) → first_at h (for_mutex m) ≡ f → Left Going h (passed_to h m f)
  unfolding passed_to
  left_passed nobody e = record {
    kept = record {
      facts = facts_own o.facts m 255 0 real (rw owner_runs) (rw (nobody_255 o.facts)) (λ z. omega arith) (λ z. (refl, nobody_at o.queued (for_mutex m) real e)) (λ z. absurd (z refl));
      ties = ties_own h.rows m 255 0 o.ties;
      queued = queued_own o.queued m 255 0 owner_runs (nobody_255 o.facts);
    };
    caller = going_own g m 255 0;
    started = unfold own in refl;
    runner = unfold own in refl;
    ties = unfold own in refl;
  }
  left_passed (somebody p t) e = unfold arrive depart in record {
    kept = record {
      facts = facts_taken o.facts m t real exists waited owner_runs fits;
      ties = ties_stand (own h.rows m t 1) (ties_own h.rows m t 1 o.ties) t ready (unfold own in exists) (λ c. unfold own at same in (rw stood));
      queued = queued_taken o.facts m t real exists waited owner_runs fits (queued_leave o.queued (for_mutex m) real p t e);
    };
    caller = going_stand (going_own g m t 1) t ready (unfold own in exists) (unfold own in (waiter_not_caller g t (for_mutex m) stood refl)) (λ z. true≢false (unfold same in (ap (λ v. same v ready) z)));
    started = unfold own stand in refl;
    runner = unfold own stand in refl;
    ties = unfold own stand in refl;
  }
    where
      stood : (thread h.rows t).stands ≡ for_mutex m
      stood = first_stands o.queued (for_mutex m) real p t e

      exists : t < length h.rows.threads
      exists = first_exists o.queued (for_mutex m) real p t e

      waited : waits (thread h.rows t).stands ≡ true
      waited = rw stood

      fits : (thread h.rows t).base ≤ (mutex h.rows m).ceiling
      fits = le_trans (base_below h.rows t) (o.facts.waiter_below m t (first_at_lem o.queued (for_mutex m) real p t e))

  -- a count above 1 falls by one
  owned_by_caller : ((mutex h.rows m).owner ≡ 255 → ⊥)
  owned_by_caller z = omega (arith, g.there, o.facts.few, mine, z)

  pub left_released : Left Going h (released h m)
  unfolding released
  left_released = by_cases (ltb 1 (mutex h.rows m).count)
      (λ e. rw e (fewer (ltb-true 1 (mutex h.rows m).count e)))
      (λ e. rw e (left_passed (first_at h (for_mutex m)) refl))
    where
      fewer : 1 < (mutex h.rows m).count → Left Going h (with_rows h (own h.rows m (mutex h.rows m).owner ((mutex h.rows m).count - 1)))
      fewer l = record {
        kept = record {
          facts = facts_own o.facts m (mutex h.rows m).owner ((mutex h.rows m).count - 1) real (rw owner_runs) (rw owner_runs) (o.facts.idle_owns m)
              (λ z. absurd (owned_by_caller z))
              (λ z. let x = o.facts.held m z in record { exists = x.exists; some = omega arith; most = omega (arith, x.most); base = x.base });
          ties = ties_own h.rows m (mutex h.rows m).owner ((mutex h.rows m).count - 1) o.ties;
          queued = queued_own o.queued m (mutex h.rows m).owner ((mutex h.rows m).count - 1) owner_runs owner_runs;
        };
        caller = going_own g m (mutex h.rows m).owner ((mutex h.rows m).count - 1);
        started = unfold own in refl;
        runner = unfold own in refl;
        ties = unfold own in refl;
      }

-- the caller takes mutex m, again or from nobody, or waits for it
module _ {h : Scheduler} (o : Kept h) (g : Going h.rows) (m : ℕ) (real : m < length h.rows.mutexes) (working : h.rows.runner ≡ 0 → ⊥) where
  -- the caller owns it with a count
  owns : (n : ℕ) → (thread h.rows (mutex h.rows m).owner).stands ≡ running → 1 ≤ n → n ≤ 255 → (thread h.rows h.rows.runner).base ≤ (mutex h.rows m).ceiling
      → Left Turned h (with_rows h (own h.rows m h.rows.runner n))
  owns n old some most fits = record {
    kept = record {
      facts = facts_own o.facts m h.rows.runner n real (rw old) (rw g.runs) working
          (λ z. absurd (omega (arith, g.there, o.facts.few, z)))
          (λ z. record { exists = g.there; some = some; most = most; base = fits });
      ties = ties_own h.rows m h.rows.runner n o.ties;
      queued = queued_own o.queued m h.rows.runner n old g.runs;
    };
    caller = turned_going (going_own g m h.rows.runner n);
    started = unfold own in refl;
    runner = unfold own in refl;
    ties = unfold own in refl;
  }

  caller_waits : (w : Where) → waits w ≡ true → Real h.rows w → Enters h.rows h.rows.runner w → Left Turned h (arrive h h.rows.runner w)
  unfolding arrive
  caller_waits w z r enters = record {
    kept = record {
      facts = facts_stand o.facts h.rows.runner w g.there (λ y. working) enters;
      ties = ties_stand h.rows o.ties h.rows.runner w g.there (λ c. unfold at same in (rw g.runs));
      queued = queued_arrive o.queued h.rows.runner w g.there g.runs r (low o.facts h.rows.runner);
    };
    caller = turned_waits g w z;
    started = unfold stand in refl;
    runner = unfold stand in refl;
    ties = unfold stand in refl;
  }

  pub left_acquired : (((mutex h.rows m).owner ≡ h.rows.runner → ⊥) → priority h.rows h.rows.runner ≤ (mutex h.rows m).ceiling)
      → ((mutex h.rows m).owner ≡ h.rows.runner → (mutex h.rows m).count ≡ 255 → ⊥) → Left Turned h (acquired h m)
  unfolding acquired
  left_acquired below more = by_cases (eqb (mutex h.rows m).owner h.rows.runner)
      (λ e. rw e (again (eqb-true (mutex h.rows m).owner h.rows.runner e)))
      (λ e. rw e (by_cases (eqb (mutex h.rows m).owner 255)
      (λ y. rw y (owns 1 (ap (λ v. (thread h.rows v).stands) (eqb-true (mutex h.rows m).owner 255 y) ∙ nobody_255 o.facts) (omega arith) (omega arith)
      (le_trans (base_below h.rows h.rows.runner) (below (eqb-false (mutex h.rows m).owner h.rows.runner e)))))
      (λ y. rw y (caller_waits (for_mutex m) refl real
      (real, eqb-false (mutex h.rows m).owner 255 y, λ z. eqb-false (mutex h.rows m).owner h.rows.runner e (sym z), below (eqb-false (mutex h.rows m).owner h.rows.runner e))))))
    where
      again : (mutex h.rows m).owner ≡ h.rows.runner → Left Turned h (with_rows h (own h.rows m h.rows.runner ((mutex h.rows m).count + 1)))
      again q = owns ((mutex h.rows m).count + 1) (rw q g.runs) (omega arith) (omega (arith, x.most, more q)) (subst (λ v. (thread h.rows v).base ≤ (mutex h.rows m).ceiling) q x.base)
        where
          x : Held h.rows (mutex h.rows m)
          x = o.facts.held m (λ z. omega (arith, g.there, o.facts.few, q, z))

-- ---- 8

-- who owns mutex m and no more than one owns no other
owns_one : (ms : List Mutex) (t m : ℕ) → (t ≡ 255 → ⊥) → owned ms t ≤ 1 → (get_or ms m no_mutex).owner ≡ t → (i : ℕ) → (i ≡ m → ⊥) → (get_or ms i no_mutex).owner ≡ t → ⊥
unfolding owned
owns_one [] t m n l e i z q = n (sym q)
owns_one (x ∷ ms) t zero n l e zero z q = z refl
owns_one (x ∷ ms) t zero n l e (suc i) z q = owned_none ms t (go (rw (eq-eqb x.owner t e) at l)) n i q
  where
    go : 1 + owned ms t ≤ 1 → owned ms t ≡ 0
    go y = omega arith
owns_one (x ∷ ms) t (suc m) n l e zero z q = owned_none ms t (go (rw (eq-eqb x.owner t q) at l)) n m e
  where
    go : 1 + owned ms t ≤ 1 → owned ms t ≡ 0
    go y = omega arith
owns_one (x ∷ ms) t (suc m) n l e (suc i) z q = owns_one ms t m n (omega (arith, l)) e i (λ y. z (ap suc y)) q

-- after m has gone to another or to nobody, the caller owns nothing
module _ {h : Scheduler} (o : Kept h) (g : Going h.rows) (m : ℕ) (real : m < length h.rows.mutexes) (mine : (mutex h.rows m).owner ≡ h.rows.runner)
    (one : owned h.rows.mutexes h.rows.runner ≤ 1) where
  not_255 : h.rows.runner ≡ 255 → ⊥
  not_255 z = omega (arith, g.there, o.facts.few, z)

  own_leaves : (t n : ℕ) → (t ≡ h.rows.runner → ⊥) → (i : ℕ) → (mutex (own h.rows m t n) i).owner ≡ h.rows.runner → ⊥
  own_leaves t n z i e = go (eqb i m) refl (sym (owner_own h.rows m t n i real) ∙ e)
    where
      go : (y : Bool) → eqb i m ≡ y → cond y t (mutex h.rows i).owner ≡ h.rows.runner → ⊥
      go true q w = z w
      go false q w = owns_one h.rows.mutexes h.rows.runner m not_255 one mine i (eqb-false i m q) w

  passed_leaves : (f : First) → first_at h (for_mutex m) ≡ f → (i : ℕ) → (mutex (passed_to h m f).rows i).owner ≡ h.rows.runner → ⊥
  unfolding passed_to arrive
  passed_leaves nobody e i q = own_leaves 255 0 (λ z. not_255 (sym z)) i q
  passed_leaves (somebody p t) e i q = own_leaves t 1 (waiter_not_caller g t (for_mutex m) (first_stands o.queued (for_mutex m) real p t e) refl) i (unfold stand depart in q)

-- what passing a mutex on leaves as it was
record Passing (k l : Rows) : Type 0 where
  bases : (u : ℕ) → (thread l u).base ≡ (thread k u).base
  ceilings : (i : ℕ) → (mutex l i).ceiling ≡ (mutex k i).ceiling
  mutexes : length l.mutexes ≡ length k.mutexes
  ties : l.ties ≡ k.ties

passing_own : (k : Rows) (m t n : ℕ) → m < length k.mutexes → Passing k (own k m t n)
passing_own k m t n real = record { bases = λ u. unfold own in refl; ceilings = λ i. ceiling_own k m t n i real; mutexes = length_own k m t n; ties = unfold own in refl }

passing : (h : Scheduler) (m : ℕ) → m < length h.rows.mutexes → Queued h.rows h.sets → (f : First) → first_at h (for_mutex m) ≡ f → Passing h.rows (passed_to h m f).rows
unfolding passed_to arrive depart
passing h m real q nobody e = passing_own h.rows m 255 0 real
passing h m real q (somebody p t) e = record {
  bases = λ u. base_stand (own h.rows m t 1) t ready u (unfold own in (first_exists q (for_mutex m) real p t e)) ∙ (unfold own in refl);
  ceilings = λ i. unfold stand in (ceiling_own h.rows m t 1 i real);
  mutexes = unfold stand in (length_own h.rows m t 1);
  ties = unfold own stand in refl;
}

-- the caller, which owns nothing any more, ties c to m and waits there
module _ {g : Scheduler} (o : Kept g) (going : Going g.rows) (c m : ℕ) (working : g.rows.runner ≡ 0 → ⊥) (there : c < length g.rows.ties) (real : m < length g.rows.mutexes)
    (tied_so : (tied g.rows c ≡ 255 → ⊥) → tied g.rows c ≡ m) (nothing : (i : ℕ) → (mutex g.rows i).owner ≡ g.rows.runner → ⊥)
    (fits : (thread g.rows g.rows.runner).base ≤ (mutex g.rows m).ceiling) where
  abbrev tie_made : Rows
  tie_made = tie g.rows c m

  facts_tied : Facts tie_made
  facts_tied = facts_tie o.facts c m there (λ u e. fit u e (o.facts.waiters c u e))
    where
      fit : (u : ℕ) → at g.rows (on_condition c) u ≡ true → Waiter g.rows c u → (m < length g.rows.mutexes) × ((thread g.rows u).base ≤ (mutex g.rows m).ceiling)
      fit u e x = (real, subst (λ v. (thread g.rows u).base ≤ (mutex g.rows v).ceiling) (tied_so (λ z. omega (arith, x.exists, o.facts.few_mutexes, z))) x.base)

  is_tied : tied tie_made c ≡ m
  is_tied = tied_tie g.rows c m c there ∙ rw (self c)

  enters : Enters tie_made g.rows.runner (on_condition c)
  enters = (
    rw (length_tie g.rows c m) there,
    record {
      exists = rw is_tied (unfold tie in real);
      free = unfold tie in nothing;
      base = rw is_tied (unfold tie in fits);
    },
  )

  ties_waited : TiesEnd (stand tie_made g.rows.runner (on_condition c))
  ties_waited d none = unfold stand in (tied_tie g.rows c m d there ∙ by_cases (eqb d c) (λ y. absurd (here (eqb-true d c y))) (λ y. rw y (o.ties d (away (eqb-false d c y)))))
    where
      exists : g.rows.runner < length tie_made.threads
      exists = unfold tie in going.there

      here : d ≡ c → ⊥
      here y = true≢false (sym (at_stand tie_made g.rows.runner (on_condition c) (on_condition d) g.rows.runner exists ∙ rw (self g.rows.runner, y, same_self (on_condition c))) ∙ none g.rows.runner)

      away : (d ≡ c → ⊥) → (u : ℕ) → at g.rows (on_condition d) u ≡ false
      away z u = by_cases (eqb u g.rows.runner)
          (λ y. rw (eqb-true u g.rows.runner y) (unfold at same in (rw going.runs)))
          (λ y. unfold tie at in (rw y at (sym (at_stand tie_made g.rows.runner (on_condition c) (on_condition d) u exists) ∙ none u)))

  caller_joins : Left Turned g (arrive (with_rows g tie_made) g.rows.runner (on_condition c))
  unfolding arrive
  caller_joins = record {
    kept = record {
      facts = facts_stand facts_tied g.rows.runner (on_condition c) (unfold tie in going.there) (λ z. working) enters;
      ties = ties_waited;
      queued = queued_arrive (queued_tie o.queued c m) g.rows.runner (on_condition c) (unfold tie in going.there) (unfold tie in going.runs) (rw (length_tie g.rows c m) there) (low facts_tied g.rows.runner);
    };
    caller = unfold tie in (turned_waits (going_tie going c m) (on_condition c) refl);
    started = unfold tie stand in refl;
    runner = unfold tie stand in refl;
    ties = unfold stand in (length_tie g.rows c m);
  }

module _ {h : Scheduler} (o : Kept h) (g : Going h.rows) (c m : ℕ) (working : h.rows.runner ≡ 0 → ⊥) (there : c < length h.rows.ties) (real : m < length h.rows.mutexes)
    (mine : (mutex h.rows m).owner ≡ h.rows.runner) (single : (mutex h.rows m).count ≤ 1) (one : owned h.rows.mutexes h.rows.runner ≤ 1)
    (tied_so : (tied h.rows c ≡ 255 → ⊥) → tied h.rows c ≡ m) where
  -- the mutex is passed on, and not only counted down
  is_passed : released h m ≡ passed_to h m (first_at h (for_mutex m))
  unfolding released
  is_passed = rw (le-ltb 1 (mutex h.rows m).count single)

  abbrev after_release : Scheduler
  after_release = passed_to h m (first_at h (for_mutex m))

  gone : Left Going h after_release
  gone = left_passed o g m real mine (first_at h (for_mutex m)) refl

  as_it_was : Passing h.rows after_release.rows
  as_it_was = passing h m real o.queued (first_at h (for_mutex m)) refl

  joined : Left Turned after_release (arrive (with_rows after_release (tie after_release.rows c m)) after_release.rows.runner (on_condition c))
  joined = caller_joins gone.kept gone.caller c m (λ z. working (sym gone.runner ∙ z)) (rw as_it_was.ties there) (rw as_it_was.mutexes real)
      (rw as_it_was.ties tied_so)
      (λ i e. passed_leaves o g m real mine one (first_at h (for_mutex m)) refl i (e ∙ gone.runner))
      (rw (as_it_was.bases after_release.rows.runner, as_it_was.ceilings m, gone.runner)
      (subst (λ v. (thread h.rows v).base ≤ (mutex h.rows m).ceiling) mine (o.facts.held m (λ z. omega (arith, g.there, o.facts.few, mine, z))).base))

  pub left_waited : Left Turned h (waited h c m)
  unfolding waited
  left_waited = rw is_passed (subst (λ v. Left Turned h (arrive (with_rows after_release (tie after_release.rows c m)) v (on_condition c))) gone.runner (left_trans h after_release gone joined))

-- ---- 9, 10 and the signals of a tick

-- ending a tie before or after the waiter has gone on is the same
untied_after : (h : Scheduler) (c m t : ℕ) → woken (with_rows h (tie h.rows c 255)) m t ≡ with_rows (woken h m t) (tie (woken h m t).rows c 255)
unfolding woken arrive own tie stand priority
untied_after h c m t = by_cases (eqb (mutex h.rows m).owner 255) (λ e. rw e) (λ e. rw e)

module _ {h : Scheduler} (o : Kept h) (g : Going h.rows) (c : ℕ) (there : c < length h.rows.ties) (p t : ℕ) (e : first_at h (on_condition c) ≡ somebody p t) where
  abbrev departed : Scheduler
  departed = depart h (on_condition c) p

  abbrev its_mutex : ℕ
  its_mutex = tied h.rows c

  stood : (thread h.rows t).stands ≡ on_condition c
  stood = first_stands o.queued (on_condition c) there p t e

  exists : t < length h.rows.threads
  exists = first_exists o.queued (on_condition c) there p t e

  waiter : Waiter h.rows c t
  waiter = o.facts.waiters c t (first_at_lem o.queued (on_condition c) there p t e)

  not_caller : t ≡ h.rows.runner → ⊥
  not_caller = waiter_not_caller g t (on_condition c) stood refl

  aside : Queued (stand h.rows t running) departed.sets
  aside = unfold depart in (queued_leave o.queued (on_condition c) there p t e)

  -- the ties of the other condition variables, when t stands at another place
  others_end : (w : Where) → (d : ℕ) → (d ≡ c → ⊥) → ((u : ℕ) → at (stand h.rows t w) (on_condition d) u ≡ false) → tied h.rows d ≡ 255
  others_end w d n none = o.ties d (λ u. by_cases (eqb u t)
      (λ y. rw (eqb-true u t y) (unfold at same in (rw stood (ne_eqb c d (λ z. n (sym z))))))
      (λ y. rw y at (sym (at_stand h.rows t w (on_condition d) u exists) ∙ none u)))

  -- all but the end of c's own tie
  record Woke (i : Scheduler) : Type 0 where
    facts : Facts i.rows
    others : (d : ℕ) → (d ≡ c → ⊥) → ((u : ℕ) → at i.rows (on_condition d) u ≡ false) → tied i.rows d ≡ 255
    queued : Queued i.rows i.sets
    going : Going i.rows
    started : i.rows.started ≡ h.rows.started
    runner : i.rows.runner ≡ h.rows.runner
    ties : i.rows.ties ≡ h.rows.ties
    elsewhere : (u : ℕ) → at i.rows (on_condition c) u ≡ cond (eqb u t) false (at h.rows (on_condition c) u)

  woke_owner : (mutex h.rows its_mutex).owner ≡ 255 → Woke (arrive (with_rows departed (own h.rows its_mutex t 1)) t ready)
  unfolding arrive depart same
  woke_owner z = record {
    facts = facts_taken o.facts its_mutex t waiter.exists exists (rw stood) old waiter.base;
    others = λ d n none. unfold own stand in (others_end ready d n (unfold own stand at in none));
    queued = queued_taken o.facts its_mutex t waiter.exists exists (rw stood) old waiter.base aside;
    going = going_stand (going_own g its_mutex t 1) t ready (unfold own in exists) (unfold own in not_caller) (λ y. true≢false (ap (λ v. same v ready) y));
    started = unfold own stand in refl;
    runner = unfold own stand in refl;
    ties = unfold own stand in refl;
    elsewhere = λ u. unfold own at in (at_stand (own h.rows its_mutex t 1) t ready (on_condition c) u (unfold own in exists));
  }
    where
      old : (thread h.rows (mutex h.rows its_mutex).owner).stands ≡ running
      old = ap (λ v. (thread h.rows v).stands) z ∙ nobody_255 o.facts

  woke_waiter : ((mutex h.rows its_mutex).owner ≡ 255 → ⊥) → Woke (arrive departed t (for_mutex its_mutex))
  unfolding arrive depart same
  woke_waiter z = record {
    facts = facts_stand o.facts t (for_mutex its_mutex) exists (λ y. waiter_not_0 o.facts t (on_condition c) stood refl)
        (waiter.exists, z, λ y. waiter.free its_mutex (sym y), rw (priority_base h.rows t waiter.free) waiter.base);
    others = λ d n none. unfold stand in (others_end (for_mutex its_mutex) d n none);
    queued = queued_lands h.rows t (for_mutex its_mutex) aside exists waiter.exists (low o.facts t);
    going = going_stand g t (for_mutex its_mutex) exists not_caller (λ y. true≢false (ap waits y));
    started = unfold stand in refl;
    runner = unfold stand in refl;
    ties = unfold stand in refl;
    elsewhere = λ u. at_stand h.rows t (for_mutex its_mutex) (on_condition c) u exists;
  }

  woke : Woke (woken departed its_mutex t)
  unfolding woken
  woke = unfold depart in (by_cases (eqb (mutex h.rows its_mutex).owner 255)
      (λ y. rw y (woke_owner (eqb-true (mutex h.rows its_mutex).owner 255 y)))
      (λ y. rw y (woke_waiter (eqb-false (mutex h.rows its_mutex).owner 255 y))))

  -- who stands on c after t has left is who stands there afterwards
  same_there : (u : ℕ) → at (woken departed its_mutex t).rows (on_condition c) u ≡ at (stand h.rows t running) (on_condition c) u
  same_there u = woke.elsewhere u ∙ sym (at_stand h.rows t running (on_condition c) u exists ∙ (unfold same in refl))

  still_there : c < length (woken departed its_mutex t).rows.ties
  still_there = rw woke.ties there

  left_woken : (f : First) → first_at departed (on_condition c) ≡ f → Left Going h (woken (untied departed c f) its_mutex t)
  unfolding untied
  left_woken nobody z = rw (untied_after departed c its_mutex t) (record {
    kept = record {
      facts = facts_tie woke.facts c 255 still_there (λ u y. no_way (at (woken departed its_mutex t).rows (on_condition c) u) y (none u));
      ties = ties_tie (woken departed its_mutex t).rows c 255 still_there woke.others (λ y. refl);
      queued = queued_tie woke.queued c 255;
    };
    caller = going_tie woke.going c 255;
    started = unfold tie in woke.started;
    runner = unfold tie in woke.runner;
    ties = length_tie (woken departed its_mutex t).rows c 255 ∙ ap length woke.ties;
  })
    where
      none : (u : ℕ) → at (woken departed its_mutex t).rows (on_condition c) u ≡ false
      none u = same_there u ∙ nobody_at aside (on_condition c) (unfold stand in there) z u
  left_woken (somebody q v) z = record {
    kept = record { facts = woke.facts; ties = ends; queued = woke.queued };
    caller = woke.going;
    started = woke.started;
    runner = woke.runner;
    ties = ap length woke.ties;
  }
    where
      ends : TiesEnd (woken departed its_mutex t).rows
      ends d none = by_cases (eqb d c)
          (λ y. no_way (at (woken departed its_mutex t).rows (on_condition c) v) (same_there v ∙ first_at_lem aside (on_condition c) (unfold stand in there) q v z) (rw (eqb-true d c y) at (none v)))
          (λ y. woke.others d (eqb-false d c y) none)

module _ {h : Scheduler} (o : Kept h) (g : Going h.rows) where
  pub left_as_it_was : Left Going h h
  left_as_it_was = record { kept = o; caller = g; started = refl; runner = refl; ties = refl }

  left_signalled_to : (c : ℕ) → c < length h.rows.ties → (f : First) → first_at h (on_condition c) ≡ f → Left Going h (signalled_to h c f)
  unfolding signalled_to
  left_signalled_to c there nobody e = left_as_it_was
  left_signalled_to c there (somebody p t) e = left_woken o g c there p t e (first_at (depart h (on_condition c) p) (on_condition c)) refl

  pub left_signalled : (c : ℕ) → c < length h.rows.ties → Left Going h (signalled h c)
  unfolding signalled
  left_signalled c there = left_signalled_to c there (first_at h (on_condition c)) refl

pub left_times : (n : ℕ) {h : Scheduler} → Kept h → Going h.rows → (c : ℕ) → c < length h.rows.ties → Left Going h (signalled_times n h c)
unfolding signalled_times
left_times zero o g c there = left_as_it_was o g
left_times (suc n) {h} o g c there =
    let l = left_signalled o g c there in
    left_trans h (signalled h c) l (left_times n l.kept l.caller c (rw l.ties there))

-- each of these is a condition variable
abbrev pub AllBelow : ℕ → List ℕ → Type 0
AllBelow n [] = Unit {0}
AllBelow n (c ∷ cs) = (c < n) × AllBelow n cs

pub left_each : (cs : List ℕ) {h : Scheduler} → Kept h → Going h.rows → AllBelow (length h.rows.ties) cs → Left Going h (signalled_each h cs)
unfolding signalled_each
left_each [] o g a = left_as_it_was o g
left_each (c ∷ cs) {h} o g a =
    let l = left_signalled o g c a.0 in
    left_trans h (signalled h c) l (left_each cs l.kept l.caller (rw l.ties a.1))
