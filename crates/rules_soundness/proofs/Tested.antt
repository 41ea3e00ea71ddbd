-- The test of soundness says exactly what the facts say.
-- Assumes nothing.
use Prim.Native.Nat.{ℕ, ◌<◌, ◌≤◌}
use mathlib.Core.Path.{◌≡◌, refl, sym, ap, ◌∙◌, subst}
use mathlib.Core.Bool.{Bool, true, false, cond, not, ◌&&◌, false≢true, true≢false}
use mathlib.Core.List.{List}
use native.Mathlib.Omega.{arith}
use lib.ListN.{length, get_or-eq_default}
use lib.Dec.{eqb, ltb, leb}
use borrow.Author.Tests.{eqb-true, eqb-false, eq-eqb, ne_eqb, ltb-true, ltb-false, lt-ltb, leb-true, le-leb, not-true, not-false}
use Rattle.laws.proofs.Bools.{by_cases, no_way, refuted, self, and_left, and_right, and_both, cond_true, cond_false}
use Rattle.units.specs.Units.{outside}
use Rattle.rules.specs.State.{Where, running, ready, for_mutex, on_condition, same, waits, Thread, Mutex, Timer, Rows, Sets, State, no_thread, no_mutex, thread, mutex, tied, at, priority, owned, set_at}
use Rattle.rules.specs.Sound.{all, each, implies, limits, bases_sound, ceilings_sound, idle_sound, runner_sound, none_above, exists, objects_sound, anyone, owner_sound, waiter_sound, mutexes_sound, condition_sound, conditions_sound, rest, clauses, holds, queue_clauses, sound}
use Rattle.rules_soundness.proofs.Tests.{AllTrue, all_true, true_all, implied, implying, inside, to_inside, each_at, at_each}
use Rattle.rules_soundness.proofs.Rows.{same_self, same_true, Real, not_running, standing_exists, owned_none, none_owned}
use Rattle.rules_soundness.proofs.Facts.{Held, Waiter, Facts, TiesEnd, Queued, Runs, Rests, Sound}
use Rattle.rules_soundness.proofs.Holding.{holds_fits, fits_holds}

-- ---- small readings

-- below or not
split : {X : Type 0} (a b : ℕ) → (a < b → X) → (b ≤ a → X) → X
split a b f g = by_cases (ltb a b) (λ e. f (ltb-true a b e)) (λ e. g (ltb-false a b e))

-- nobody stands there, as a test
nobody_there : (k : Rows) (w : Where) → same running w ≡ false → anyone k w ≡ false → (t : ℕ) → at k w t ≡ false
nobody_there k w n e t = refuted (at k w t) (λ a.
    no_way (at k w t) a (not-true (at k w t) (each_at (length k.threads) (λ u. not (at k w u)) (not-false (each (length k.threads) (λ u. not (at k w u))) e) t (standing_exists k w t n a))))

to_nobody : (k : Rows) (w : Where) → ((t : ℕ) → at k w t ≡ false) → anyone k w ≡ false
to_nobody k w h = rw (at_each (length k.threads) (λ u. not (at k w u)) (λ u l. rw (h u)))

somebody_there : (k : Rows) (w : Where) (t : ℕ) → same running w ≡ false → at k w t ≡ true → anyone k w ≡ true
somebody_there k w t n a = by_cases (anyone k w) (λ y. y) (λ y. no_way (at k w t) a (nobody_there k w n y t))

-- two tests with the same number are one
flag : (a b : Bool) → eqb (cond a 1 0) (cond b 1 0) ≡ true → a ≡ b
flag true true e = refl
flag true false e = absurd (false≢true e)
flag false true e = absurd (false≢true e)
flag false false e = refl

flagged : (a b : Bool) → a ≡ b → eqb (cond a 1 0) (cond b 1 0) ≡ true
flagged a b e = rw e (self (cond b 1 0))

-- ---- from the test to the facts

module _ (k : Rows) (count : ℕ) (ts : List Timer) (c : AllTrue (clauses k count ts)) where
  within : AllTrue (limits k count ts)
  within = all_true (limits k count ts) c.0

  base_at : (t : ℕ) → t < length k.threads → cond (eqb t 0) (eqb (thread k t).base 0) (not (outside 1 15 (thread k t).base)) ≡ true
  base_at = each_at (length k.threads) (λ t. cond (eqb t 0) (eqb (thread k t).base 0) (not (outside 1 15 (thread k t).base))) c.1.0

  some_thread : 0 < length k.threads
  some_thread = (inside 1 32 (length k.threads) within.0).0

  owner_at : (m : ℕ) → m < length k.mutexes → owner_sound k m ≡ true
  owner_at m l = and_left (owner_sound k m) (each (length k.threads) (waiter_sound k m)) (each_at (length k.mutexes) (λ i. owner_sound k i && each (length k.threads) (waiter_sound k i)) c.1.1.1.1.1.1.1.0 m l)

  waiter_at : (m t : ℕ) → m < length k.mutexes → at k (for_mutex m) t ≡ true → (not (eqb t (mutex k m).owner) && leb (priority k t) (mutex k m).ceiling) ≡ true
  waiter_at m t l a = implied (at k (for_mutex m) t) (not (eqb t (mutex k m).owner) && leb (priority k t) (mutex k m).ceiling)
      (each_at (length k.threads) (waiter_sound k m) (and_right (owner_sound k m) (each (length k.threads) (waiter_sound k m)) (each_at (length k.mutexes) (λ i. owner_sound k i && each (length k.threads) (waiter_sound k i)) c.1.1.1.1.1.1.1.0 m l)) t (standing_exists k (for_mutex m) t (unfold same in refl) a)) a

  real_at : (w : Where) (t : ℕ) → same running w ≡ false → at k w t ≡ true → Real k w
  real_at w t n a = go w n (subst (λ v. exists k v ≡ true) (same_true (thread k t).stands w (unfold at in a)) (each_at (length k.threads) (λ u. exists k (thread k u).stands) c.1.1.1.1.1.1.0 t (standing_exists k w t n a)))
    where
      go : (v : Where) → same running v ≡ false → exists k v ≡ true → Real k v
      go running z e = absurd (true≢false (unfold same in z))
      go ready z e = tt
      go (for_mutex m) z e = ltb-true m (length k.mutexes) e
      go (on_condition d) z e = ltb-true d (length k.ties) e

  condition_at : (d : ℕ) → d < length k.ties → condition_sound k d ≡ true
  condition_at = each_at (length k.ties) (condition_sound k) c.1.1.1.1.1.1.1.1.0

  unowned_mutex : (m : ℕ) → m < length k.mutexes → (mutex k m).owner ≡ 255 → (eqb (mutex k m).count 0 && not (anyone k (for_mutex m))) ≡ true
  unowned_mutex m l e = sym (cond_true (eqb (mutex k m).owner 255) (eqb (mutex k m).count 0 && not (anyone k (for_mutex m))) (ltb (mutex k m).owner (length k.threads) && not (outside 1 255 (mutex k m).count) && leb (thread k (mutex k m).owner).base (mutex k m).ceiling) (eq-eqb (mutex k m).owner 255 e)) ∙ owner_at m l

  owned_mutex : (m : ℕ) → m < length k.mutexes → ((mutex k m).owner ≡ 255 → ⊥) → (ltb (mutex k m).owner (length k.threads) && not (outside 1 255 (mutex k m).count) && leb (thread k (mutex k m).owner).base (mutex k m).ceiling) ≡ true
  owned_mutex m l e = sym (cond_false (eqb (mutex k m).owner 255) (eqb (mutex k m).count 0 && not (anyone k (for_mutex m))) (ltb (mutex k m).owner (length k.threads) && not (outside 1 255 (mutex k m).count) && leb (thread k (mutex k m).owner).base (mutex k m).ceiling) (ne_eqb (mutex k m).owner 255 e)) ∙ owner_at m l

  held_at : (m : ℕ) → ((mutex k m).owner ≡ 255 → ⊥) → Held k (mutex k m)
  held_at m e = split m (length k.mutexes) from (λ l. absurd (e (ap (λ (x : Mutex). x.owner) (get_or-eq_default k.mutexes no_mutex l))))
    where
      from : m < length k.mutexes → Held k (mutex k m)
      from l = record {
        exists = ltb-true (mutex k m).owner (length k.threads) (and_left (ltb (mutex k m).owner (length k.threads)) (not (outside 1 255 (mutex k m).count)) two);
        some = counted.0;
        most = counted.1;
        base = leb-true (thread k (mutex k m).owner).base (mutex k m).ceiling (and_right (ltb (mutex k m).owner (length k.threads) && not (outside 1 255 (mutex k m).count)) (leb (thread k (mutex k m).owner).base (mutex k m).ceiling) (owned_mutex m l e));
      }
        where
          two : (ltb (mutex k m).owner (length k.threads) && not (outside 1 255 (mutex k m).count)) ≡ true
          two = and_left (ltb (mutex k m).owner (length k.threads) && not (outside 1 255 (mutex k m).count)) (leb (thread k (mutex k m).owner).base (mutex k m).ceiling) (owned_mutex m l e)

          counted : (1 ≤ (mutex k m).count) × ((mutex k m).count ≤ 255)
          counted = inside 1 255 (mutex k m).count (and_right (ltb (mutex k m).owner (length k.threads)) (not (outside 1 255 (mutex k m).count)) two)

  abbrev tie_test : ℕ → Bool
  tie_test d = cond (anyone k (on_condition d)) (ltb (tied k d) (length k.mutexes)) (eqb (tied k d) 255)

  abbrev own_test : ℕ → ℕ → Bool
  own_test d t = eqb (owned k.mutexes t) 0 && leb (thread k t).base (mutex k (tied k d)).ceiling

  abbrev waiter_test : ℕ → ℕ → Bool
  waiter_test d t = implies (at k (on_condition d) t) (own_test d t)

  tie_at_lem : (d : ℕ) → d < length k.ties → tie_test d ≡ true
  tie_at_lem d l = and_left (tie_test d) (each (length k.threads) (waiter_test d)) (condition_at d l)

  waiters_at : (d t : ℕ) → at k (on_condition d) t ≡ true → Waiter k d t
  waiters_at d t a = record {
    exists = ltb-true (tied k d) (length k.mutexes) (sym (cond_true (anyone k (on_condition d)) (ltb (tied k d) (length k.mutexes)) (eqb (tied k d) 255) (somebody_there k (on_condition d) t (unfold same in refl) a)) ∙ tie_at_lem d there);
    free = owned_none k.mutexes t (eqb-true (owned k.mutexes t) 0 (and_left (eqb (owned k.mutexes t) 0) (leb (thread k t).base (mutex k (tied k d)).ceiling) both)) (λ e. omega (arith, exists_t, (inside 1 32 (length k.threads) within.0).1, e));
    base = leb-true (thread k t).base (mutex k (tied k d)).ceiling (and_right (eqb (owned k.mutexes t) 0) (leb (thread k t).base (mutex k (tied k d)).ceiling) both);
  }
    where
      there : d < length k.ties
      there = real_at (on_condition d) t (unfold same in refl) a

      exists_t : t < length k.threads
      exists_t = standing_exists k (on_condition d) t (unfold same in refl) a

      both : own_test d t ≡ true
      both = implied (at k (on_condition d) t) (own_test d t) (each_at (length k.threads) (waiter_test d) (and_right (tie_test d) (each (length k.threads) (waiter_test d)) (condition_at d there)) t exists_t) a

  rows_facts : Facts k
  rows_facts = record {
    some = some_thread;
    few = (inside 1 32 (length k.threads) within.0).1;
    few_mutexes = leb-true (length k.mutexes) 16 within.1.0;
    few_ties = leb-true (length k.ties) 16 within.1.1.0;
    zero_base = eqb-true (thread k 0).base 0 (base_at 0 some_thread);
    bases = λ t. split t (length k.threads) (λ l. low t l (eqb t 0) refl (base_at t l)) (λ l. subst (λ (x : Thread). x.base < 16) (sym (get_or-eq_default k.threads no_thread l)) (omega arith));
    bases_from_1 = λ t z l. (inside 1 15 (thread k t).base (sym (cond_false (eqb t 0) (eqb (thread k t).base 0) (not (outside 1 15 (thread k t).base)) (ne_eqb t 0 (λ e. omega (arith, z, e)))) ∙ base_at t l)).0;
    ceilings = λ m. split m (length k.mutexes) (λ l. omega (arith, (ceiling m l).1)) (λ l. subst (λ (x : Mutex). x.ceiling < 16) (sym (get_or-eq_default k.mutexes no_mutex l)) (omega arith));
    ceilings_from_1 = λ m l. (ceiling m l).0;
    idle = not-true (waits (thread k 0).stands) (and_left (not (waits (thread k 0).stands)) (eqb (owned k.mutexes 0) 0) c.1.1.1.0);
    idle_owns = owned_none k.mutexes 0 (eqb-true (owned k.mutexes 0) 0 (and_right (not (waits (thread k 0).stands)) (eqb (owned k.mutexes 0) 0) c.1.1.1.0)) (λ e. omega arith);
    real = real_at;
    free = λ m t e. refuted (at k (for_mutex m) t) (λ a. no_way (at k (for_mutex m) t) a
        (nobody_there k (for_mutex m) (unfold same in refl) (not-true (anyone k (for_mutex m)) (and_right (eqb (mutex k m).count 0) (not (anyone k (for_mutex m))) (unowned_mutex m (real_at (for_mutex m) t (unfold same in refl) a) e))) t));
    uncounted = λ m e. split m (length k.mutexes) (λ l. eqb-true (mutex k m).count 0 (and_left (eqb (mutex k m).count 0) (not (anyone k (for_mutex m))) (unowned_mutex m l e))) (λ l. ap (λ (x : Mutex). x.count) (get_or-eq_default k.mutexes no_mutex l));
    held = held_at;
    waiter_apart = λ m t a. eqb-false t (mutex k m).owner (not-true (eqb t (mutex k m).owner) (and_left (not (eqb t (mutex k m).owner)) (leb (priority k t) (mutex k m).ceiling) (waiter_at m t (real_at (for_mutex m) t (unfold same in refl) a) a)));
    waiter_below = λ m t a. leb-true (priority k t) (mutex k m).ceiling (and_right (not (eqb t (mutex k m).owner)) (leb (priority k t) (mutex k m).ceiling) (waiter_at m t (real_at (for_mutex m) t (unfold same in refl) a) a));
    waiters = waiters_at;
  }
    where
      ceiling : (m : ℕ) → m < length k.mutexes → (1 ≤ (mutex k m).ceiling) × ((mutex k m).ceiling ≤ 15)
      ceiling m l = inside 1 15 (mutex k m).ceiling (each_at (length k.mutexes) (λ i. not (outside 1 15 (mutex k i).ceiling)) c.1.1.0 m l)

      low : (t : ℕ) → t < length k.threads → (y : Bool) → eqb t 0 ≡ y → cond y (eqb (thread k t).base 0) (not (outside 1 15 (thread k t).base)) ≡ true → (thread k t).base < 16
      low t l true q e = omega (arith, eqb-true (thread k t).base 0 e)
      low t l false q e = omega (arith, (inside 1 15 (thread k t).base e).1)

  ties_facts : TiesEnd k
  ties_facts d none = split d (length k.ties)
      (λ l. eqb-true (tied k d) 255 (sym (cond_false (anyone k (on_condition d)) (ltb (tied k d) (length k.mutexes)) (eqb (tied k d) 255) (to_nobody k (on_condition d) none)) ∙ tie_at_lem d l))
      (λ l. get_or-eq_default k.ties 255 l)

  abbrev runs_test : ℕ → Bool
  runs_test t = eqb (cond (at k running t) 1 0) (cond (k.started && eqb t k.runner) 1 0)

  abbrev runner_test : Bool
  runner_test = cond k.started (ltb k.runner (length k.threads)) (eqb k.runner 255)

  runs_at : (t : ℕ) → t < length k.threads → at k running t ≡ (k.started && eqb t k.runner)
  runs_at t l = flag (at k running t) (k.started && eqb t k.runner) (each_at (length k.threads) runs_test (and_left (each (length k.threads) runs_test) runner_test c.1.1.1.1.0) t l)

  runner_at : runner_test ≡ true
  runner_at = and_right (each (length k.threads) runs_test) runner_test c.1.1.1.1.0

  runs_facts : k.started ≡ true → Runs k
  runs_facts on = record {
    there = there;
    runs = same_true (thread k k.runner).stands running (unfold at in (runs_at k.runner there ∙ and_both k.started (eqb k.runner k.runner) on (self k.runner)));
    only = λ t l e. eqb-true t k.runner (and_right k.started (eqb t k.runner) (sym (runs_at t l) ∙ stands_so t e));
    top = λ t a. leb-true (priority k t) (priority k k.runner) (implied (k.started && at k ready t) (leb (priority k t) (priority k k.runner))
        (each_at (length k.threads) (λ u. implies (k.started && at k ready u) (leb (priority k u) (priority k k.runner))) c.1.1.1.1.1.0 t (standing_exists k ready t (unfold same in refl) a))
        (and_both k.started (at k ready t) on a));
  }
    where
      there : k.runner < length k.threads
      there = ltb-true k.runner (length k.threads) (sym (cond_true k.started (ltb k.runner (length k.threads)) (eqb k.runner 255) on) ∙ runner_at)

      stands_so : (t : ℕ) → (thread k t).stands ≡ running → at k running t ≡ true
      stands_so t e = unfold at in (ap (λ w. same w running) e ∙ same_self running)

  rests_facts : k.started ≡ false → Rests k count ts
  rests_facts off = record {
    runner = eqb-true k.runner 255 (sym (cond_false k.started (ltb k.runner (length k.threads)) (eqb k.runner 255) off) ∙ runner_at);
    ready = each_at (length k.threads) (at k ready) r.0;
    unowned = λ m. split m (length k.mutexes) (λ l. eqb-true (mutex k m).owner 255 (each_at (length k.mutexes) (λ i. eqb (mutex k i).owner 255) r.1.0 m l)) (λ l. ap (λ (x : Mutex). x.owner) (get_or-eq_default k.mutexes no_mutex l));
    timers = r.1.1.0;
    count = eqb-true count 0 r.1.1.1.0;
  }
    where
      r : AllTrue (rest k count ts)
      r = all_true (rest k count ts) (implied (not k.started) (all (rest k count ts)) c.1.1.1.1.1.1.1.1.1.1.0 (ap not off))

queued_facts : (k : Rows) (s : Sets) → AllTrue (queue_clauses k s) → Queued k s
queued_facts k s q = record { mutexes = eqb-true (length s.mutex) (length k.mutexes) q.1.0; conditions = eqb-true (length s.condition) (length k.ties) q.1.1.1.0; fits = λ w r. holds_fits k w (not_running (length k.mutexes) (length k.ties) w r) (set_at s w) (go w r) }
  where
    go : (w : Where) → Real k w → holds k w (set_at s w) ≡ true
    go running r = absurd r
    go ready r = q.0
    go (for_mutex m) r = each_at (length k.mutexes) (λ i. holds k (for_mutex i) (set_at s (for_mutex i))) q.1.1.0 m r
    go (on_condition d) r = each_at (length k.ties) (λ i. holds k (on_condition i) (set_at s (on_condition i))) q.1.1.1.1.0 d r

-- what the test tells
pub sound_facts : (s : State) → sound s ≡ true → Sound s
unfolding sound
sound_facts s e = record {
  facts = rows_facts k s.count s.timers c;
  ties = ties_facts k s.count s.timers c;
  queued = queued_facts k s.scheduler.sets (all_true (queue_clauses k s.scheduler.sets) (and_right (all (clauses k s.count s.timers)) (all (queue_clauses k s.scheduler.sets)) e));
  few_timers = leb-true (length s.timers) 32 (within k s.count s.timers c).1.1.1.0;
  timers = c.1.1.1.1.1.1.1.1.1.0;
  count = ltb-true s.count 4294967296 (within k s.count s.timers c).1.1.1.1.0;
  live = runs_facts k s.count s.timers c;
  rests = rests_facts k s.count s.timers c;
}
  where
    k : Rows
    k = s.scheduler.rows

    c : AllTrue (clauses s.scheduler.rows s.count s.timers)
    c = all_true (clauses s.scheduler.rows s.count s.timers) (and_left (all (clauses s.scheduler.rows s.count s.timers)) (all (queue_clauses s.scheduler.rows s.scheduler.sets)) e)

-- ---- from the facts to the test

module _ {k : Rows} (f : Facts k) where
  bases_test : bases_sound k ≡ true
  bases_test = at_each (length k.threads) (λ t. cond (eqb t 0) (eqb (thread k t).base 0) (not (outside 1 15 (thread k t).base))) (λ t l. go t l (eqb t 0) refl)
    where
      go : (t : ℕ) → t < length k.threads → (y : Bool) → eqb t 0 ≡ y → cond y (eqb (thread k t).base 0) (not (outside 1 15 (thread k t).base)) ≡ true
      go t l true q = eq-eqb (thread k t).base 0 (ap (λ u. (thread k u).base) (eqb-true t 0 q) ∙ f.zero_base)
      go t l false q = to_inside 1 15 (thread k t).base (f.bases_from_1 t (omega (arith, eqb-false t 0 q)) l) (omega (arith, f.bases t))

  ceilings_test : ceilings_sound k ≡ true
  ceilings_test = at_each (length k.mutexes) (λ m. not (outside 1 15 (mutex k m).ceiling)) (λ m l. to_inside 1 15 (mutex k m).ceiling (f.ceilings_from_1 m l) (omega (arith, f.ceilings m)))

  idle_test : idle_sound k ≡ true
  idle_test = and_both (not (waits (thread k 0).stands)) (eqb (owned k.mutexes 0) 0) (ap not f.idle) (eq-eqb (owned k.mutexes 0) 0 (none_owned k.mutexes 0 f.idle_owns))

  objects_test : objects_sound k ≡ true
  objects_test = at_each (length k.threads) (λ t. exists k (thread k t).stands) (λ t l. go t (thread k t).stands refl)
    where
      there : (t : ℕ) (w : Where) → (thread k t).stands ≡ w → at k w t ≡ true
      there t w e = unfold at in (ap (λ v. same v w) e ∙ same_self w)

      go : (t : ℕ) (w : Where) → (thread k t).stands ≡ w → exists k w ≡ true
      go t running e = refl
      go t ready e = refl
      go t (for_mutex m) e = lt-ltb m (length k.mutexes) (f.real (for_mutex m) t (unfold same in refl) (there t (for_mutex m) e))
      go t (on_condition d) e = lt-ltb d (length k.ties) (f.real (on_condition d) t (unfold same in refl) (there t (on_condition d) e))

  owner_test : (m : ℕ) → owner_sound k m ≡ true
  owner_test m = go (eqb (mutex k m).owner 255) refl
    where
      go : (y : Bool) → eqb (mutex k m).owner 255 ≡ y → cond y (eqb (mutex k m).count 0 && not (anyone k (for_mutex m))) (ltb (mutex k m).owner (length k.threads) && not (outside 1 255 (mutex k m).count) && leb (thread k (mutex k m).owner).base (mutex k m).ceiling) ≡ true
      go true q =
          let e = eqb-true (mutex k m).owner 255 q in
          and_both (eqb (mutex k m).count 0) (not (anyone k (for_mutex m))) (eq-eqb (mutex k m).count 0 (f.uncounted m e)) (ap not (to_nobody k (for_mutex m) (λ t. f.free m t e)))
      go false q =
          let h = f.held m (eqb-false (mutex k m).owner 255 q) in
          and_both (ltb (mutex k m).owner (length k.threads) && not (outside 1 255 (mutex k m).count)) (leb (thread k (mutex k m).owner).base (mutex k m).ceiling)
          (and_both (ltb (mutex k m).owner (length k.threads)) (not (outside 1 255 (mutex k m).count)) (lt-ltb (mutex k m).owner (length k.threads) h.exists) (to_inside 1 255 (mutex k m).count h.some h.most))
          (le-leb (thread k (mutex k m).owner).base (mutex k m).ceiling h.base)

  mutexes_test : mutexes_sound k ≡ true
  mutexes_test = at_each (length k.mutexes) (λ m. owner_sound k m && each (length k.threads) (waiter_sound k m)) (λ m l.
      and_both (owner_sound k m) (each (length k.threads) (waiter_sound k m)) (owner_test m) (at_each (length k.threads) (waiter_sound k m) (λ t z.
      implying (at k (for_mutex m) t) (not (eqb t (mutex k m).owner) && leb (priority k t) (mutex k m).ceiling) (λ a.
      and_both (not (eqb t (mutex k m).owner)) (leb (priority k t) (mutex k m).ceiling) (ap not (ne_eqb t (mutex k m).owner (f.waiter_apart m t a))) (le-leb (priority k t) (mutex k m).ceiling (f.waiter_below m t a))))))

  conditions_test : TiesEnd k → conditions_sound k ≡ true
  conditions_test ends = at_each (length k.ties) (condition_sound k) (λ d l.
      and_both (cond (anyone k (on_condition d)) (ltb (tied k d) (length k.mutexes)) (eqb (tied k d) 255)) (each (length k.threads) (λ t. implies (at k (on_condition d) t) (owns d t)))
      (tie d (anyone k (on_condition d)) refl)
      (at_each (length k.threads) (λ t. implies (at k (on_condition d) t) (owns d t)) (λ t z. implying (at k (on_condition d) t) (owns d t) (λ a.
      let x = f.waiters d t a in
      and_both (eqb (owned k.mutexes t) 0) (leb (thread k t).base (mutex k (tied k d)).ceiling) (eq-eqb (owned k.mutexes t) 0 (none_owned k.mutexes t x.free)) (le-leb (thread k t).base (mutex k (tied k d)).ceiling x.base)))))
    where
      owns : ℕ → ℕ → Bool
      owns d t = eqb (owned k.mutexes t) 0 && leb (thread k t).base (mutex k (tied k d)).ceiling

      tie : (d : ℕ) (y : Bool) → anyone k (on_condition d) ≡ y → cond y (ltb (tied k d) (length k.mutexes)) (eqb (tied k d) 255) ≡ true
      tie d true q = by_cases (ltb (tied k d) (length k.mutexes)) (λ y. y) (λ y. no_way (anyone k (on_condition d)) q (to_nobody k (on_condition d) (λ t. refuted (at k (on_condition d) t) (λ a. no_way (ltb (tied k d) (length k.mutexes)) (lt-ltb (tied k d) (length k.mutexes) (f.waiters d t a).exists) y))))
      tie d false q = eq-eqb (tied k d) 255 (ends d (nobody_there k (on_condition d) (unfold same in refl) q))

-- nobody runs but the runner
runner_sound_lem : (k : Rows) → (k.started ≡ true → Runs k) → (k.started ≡ false → (k.runner ≡ 255) × ((t : ℕ) → t < length k.threads → at k ready t ≡ true)) → runner_sound k ≡ true
runner_sound_lem k live rests = by_cases k.started started stopped
  where
    one : ℕ → Bool
    one t = eqb (cond (at k running t) 1 0) (cond (k.started && eqb t k.runner) 1 0)

    sits : Bool
    sits = cond k.started (ltb k.runner (length k.threads)) (eqb k.runner 255)

    started : k.started ≡ true → runner_sound k ≡ true
    started on = and_both (each (length k.threads) one) sits
        (at_each (length k.threads) one (λ t l. flagged (at k running t) (k.started && eqb t k.runner) (go t l)))
        (cond_true k.started (ltb k.runner (length k.threads)) (eqb k.runner 255) on ∙ lt-ltb k.runner (length k.threads) (live on).there)
      where
        runs_there : (t : ℕ) → t ≡ k.runner → at k running t ≡ true
        runs_there t e = unfold at in (ap (λ u. same (thread k u).stands running) e ∙ ap (λ w. same w running) (live on).runs ∙ same_self running)

        go : (t : ℕ) → t < length k.threads → at k running t ≡ (k.started && eqb t k.runner)
        go t l = by_cases (eqb t k.runner)
            (λ y. runs_there t (eqb-true t k.runner y) ∙ sym (and_both k.started (eqb t k.runner) on y))
            (λ y. refuted (at k running t) (λ a. eqb-false t k.runner y ((live on).only t l (same_true (thread k t).stands running (unfold at in a)))) ∙ sym (refuted (k.started && eqb t k.runner) (λ z. no_way (eqb t k.runner) (and_right k.started (eqb t k.runner) z) y)))

    stopped : k.started ≡ false → runner_sound k ≡ true
    stopped off = and_both (each (length k.threads) one) sits
        (at_each (length k.threads) one (λ t l. flagged (at k running t) (k.started && eqb t k.runner) (go t l)))
        (cond_false k.started (ltb k.runner (length k.threads)) (eqb k.runner 255) off ∙ eq-eqb k.runner 255 (rests off).0)
      where
        go : (t : ℕ) → t < length k.threads → at k running t ≡ (k.started && eqb t k.runner)
        go t l = refuted (at k running t) (λ a. true≢false (sym (unfold same in (sym (ap (λ w. same w ready) (same_true (thread k t).stands running (unfold at in a))) ∙ (unfold at in ((rests off).1 t l))))))
            ∙ sym (refuted (k.started && eqb t k.runner) (λ z. no_way k.started (and_left k.started (eqb t k.runner) z) off))

none_above_lem : (k : Rows) → (k.started ≡ true → Runs k) → none_above k ≡ true
none_above_lem k live = at_each (length k.threads) (λ t. implies (k.started && at k ready t) (leb (priority k t) (priority k k.runner))) (λ t l.
    implying (k.started && at k ready t) (leb (priority k t) (priority k k.runner)) (λ a.
    le-leb (priority k t) (priority k k.runner) ((live (and_left k.started (at k ready t) a)).top t (and_right k.started (at k ready t) a))))

rest_test : (k : Rows) (count : ℕ) (ts : List Timer) → Rests k count ts → all (rest k count ts) ≡ true
rest_test k count ts r = true_all (rest k count ts) (
  at_each (length k.threads) (at k ready) r.ready,
  (at_each (length k.mutexes) (λ m. eqb (mutex k m).owner 255) (λ m l. eq-eqb (mutex k m).owner 255 (r.unowned m)), (r.timers, (eq-eqb count 0 r.count, tt))),
)

queues_test : (k : Rows) (s : Sets) → Queued k s → all (queue_clauses k s) ≡ true
queues_test k s q = true_all (queue_clauses k s) (
  holding ready tt,
  (
    eq-eqb (length s.mutex) (length k.mutexes) q.mutexes,
    (
      at_each (length k.mutexes) (λ m. holds k (for_mutex m) (set_at s (for_mutex m))) (λ m l. holding (for_mutex m) l),
      (
        eq-eqb (length s.condition) (length k.ties) q.conditions,
        (at_each (length k.ties) (λ d. holds k (on_condition d) (set_at s (on_condition d))) (λ d l. holding (on_condition d) l), tt),
      ),
    ),
  ),
)
  where
    holding : (w : Where) → Real k w → holds k w (set_at s w) ≡ true
    holding w r = fits_holds k w (not_running (length k.mutexes) (length k.ties) w r) (set_at s w) (q.fits w r)

-- the test passes where the facts hold
pub facts_sound : (s : State) → Sound s → sound s ≡ true
unfolding sound
facts_sound s o = and_both (all (clauses k s.count s.timers)) (all (queue_clauses k s.scheduler.sets))
    (true_all (clauses k s.count s.timers) (
      true_all (limits k s.count s.timers) (
        to_inside 1 32 (length k.threads) f.some f.few,
        (le-leb (length k.mutexes) 16 f.few_mutexes, (le-leb (length k.ties) 16 f.few_ties, (le-leb (length s.timers) 32 o.few_timers, (lt-ltb s.count 4294967296 o.count, tt)))),
      ),
      (
        bases_test f,
        (
          ceilings_test f,
          (
            idle_test f,
            (
              runner_sound_lem k o.live (λ off. ((o.rests off).runner, (o.rests off).ready)),
              (
                none_above_lem k o.live,
                (
                  objects_test f,
                  (
                    mutexes_test f,
                    (conditions_test f o.ties, (o.timers, (implying (not k.started) (all (rest k s.count s.timers)) (λ off. rest_test k s.count s.timers (o.rests (not-true k.started off))), tt))),
                  ),
                ),
              ),
            ),
          ),
        ),
      ),
    ))
    (queues_test k s.scheduler.sets o.queued)
  where
    k : Rows
    k = s.scheduler.rows

    f : Facts s.scheduler.rows
    f = o.facts
