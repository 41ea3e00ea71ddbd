-- Soundness as facts to prove with, and how the facts about the rows are kept when a thread stands elsewhere, a mutex changes hands or a tie
-- changes.
-- Assumes nothing.
use Prim.Native.Nat.{ℕ, suc, ◌<◌, ◌≤◌}
use mathlib.Core.Path.{◌≡◌, refl, sym, ap, ◌∙◌, subst}
use mathlib.Core.Bool.{Bool, true, false, cond, true≢false}
use mathlib.Core.List.{List, [], ◌∷◌}
use native.Mathlib.Omega.{arith}
use lib.ListN.{length, get_or}
use lib.Dec.{eqb}
use borrow.Author.Tests.{eqb-true, eqb-false}
use Rattle.laws.proofs.Bools.{by_cases, no_way, refuted}
use Rattle.rules.specs.State.{Where, running, ready, for_mutex, on_condition, same, waits, Mutex, Timer, Rows, Sets, State, no_mutex, thread, mutex, tied, at, highest_ceiling, priority, stand, own, tie, set_at}
use Rattle.rules.specs.Sound.{timers_sound, none_goes}
use Rattle.rules_soundness.proofs.Fits.{Fits}
use Rattle.rules_soundness.proofs.Rows.{same_true, Real, base_stand, stands_stand, at_stand, priority_stand, length_stand, mutex_own, ceiling_own, owner_own, length_own, priority_own, tied_tie, length_tie}

-- two threads are not one
abbrev pub Apart : ℕ → ℕ → Type 0
Apart u v = u ≡ v → ⊥

-- what an owned mutex has: an existing owner, whose base is not above the ceiling, and a count
pub record Held (k : Rows) (x : Mutex) : Type 0 where
  pub exists : x.owner < length k.threads
  pub some : 1 ≤ x.count
  pub most : x.count ≤ 255
  pub base : (thread k x.owner).base ≤ x.ceiling

-- what a waiter on condition variable c has: the tied mutex exists, the waiter owns nothing, its base is not above that ceiling
pub record Waiter (k : Rows) (c t : ℕ) : Type 0 where
  pub exists : tied k c < length k.mutexes
  pub free : (m : ℕ) → (mutex k m).owner ≡ t → ⊥
  pub base : (thread k t).base ≤ (mutex k (tied k c)).ceiling

-- the clauses that no change of the running thread touches
pub record Facts (k : Rows) : Type 0 where
  pub some : 0 < length k.threads
  pub few : length k.threads ≤ 32
  pub few_mutexes : length k.mutexes ≤ 16
  pub few_ties : length k.ties ≤ 16
  pub zero_base : (thread k 0).base ≡ 0
  pub bases : (t : ℕ) → (thread k t).base < 16
  pub bases_from_1 : (t : ℕ) → 0 < t → t < length k.threads → 1 ≤ (thread k t).base
  pub ceilings : (m : ℕ) → (mutex k m).ceiling < 16
  pub ceilings_from_1 : (m : ℕ) → m < length k.mutexes → 1 ≤ (mutex k m).ceiling
  pub idle : waits (thread k 0).stands ≡ false
  pub idle_owns : (m : ℕ) → (mutex k m).owner ≡ 0 → ⊥
  pub real : (w : Where) (t : ℕ) → same running w ≡ false → at k w t ≡ true → Real k w
  pub free : (m t : ℕ) → (mutex k m).owner ≡ 255 → at k (for_mutex m) t ≡ false
  pub uncounted : (m : ℕ) → (mutex k m).owner ≡ 255 → (mutex k m).count ≡ 0
  pub held : (m : ℕ) → ((mutex k m).owner ≡ 255 → ⊥) → Held k (mutex k m)
  pub waiter_apart : (m t : ℕ) → at k (for_mutex m) t ≡ true → t ≡ (mutex k m).owner → ⊥
  pub waiter_below : (m t : ℕ) → at k (for_mutex m) t ≡ true → priority k t ≤ (mutex k m).ceiling
  pub waiters : (c t : ℕ) → at k (on_condition c) t ≡ true → Waiter k c t

-- a condition variable on which nobody waits is tied to none
abbrev pub TiesEnd : Rows → Type 0
TiesEnd k = (c : ℕ) → ((t : ℕ) → at k (on_condition c) t ≡ false) → tied k c ≡ 255

-- each set of queues holds exactly those who stand at its place
pub record Queued (k : Rows) (s : Sets) : Type 0 where
  pub mutexes : length s.mutex ≡ length k.mutexes
  pub conditions : length s.condition ≡ length k.ties
  pub fits : (w : Where) → Real k w → Fits (at k w) (priority k) Apart (set_at s w)

-- one thread runs, and none is ready above it
pub record Runs (k : Rows) : Type 0 where
  pub there : k.runner < length k.threads
  pub runs : (thread k k.runner).stands ≡ running
  pub only : (t : ℕ) → t < length k.threads → (thread k t).stands ≡ running → t ≡ k.runner
  pub top : (t : ℕ) → at k ready t ≡ true → priority k t ≤ priority k k.runner

-- while stopped all threads are ready, nothing is owned, no timer runs, the count is 0
pub record Rests (k : Rows) (n : ℕ) (ts : List Timer) : Type 0 where
  pub runner : k.runner ≡ 255
  pub ready : (t : ℕ) → t < length k.threads → at k ready t ≡ true
  pub unowned : (m : ℕ) → (mutex k m).owner ≡ 255
  pub timers : none_goes ts ≡ true
  pub count : n ≡ 0

pub record Sound (s : State) : Type 0 where
  pub facts : Facts s.scheduler.rows
  pub ties : TiesEnd s.scheduler.rows
  pub queued : Queued s.scheduler.rows s.scheduler.sets
  pub few_timers : length s.timers ≤ 32
  pub timers : timers_sound s.scheduler.rows s.timers ≡ true
  pub count : s.count < 4294967296
  pub live : s.scheduler.rows.started ≡ true → Runs s.scheduler.rows
  pub rests : s.scheduler.rows.started ≡ false → Rests s.scheduler.rows s.count s.timers

-- ---- priorities are low

highest_low : (ms : List Mutex) (u : ℕ) → ((m : ℕ) → (get_or ms m no_mutex).ceiling < 16) → highest_ceiling ms u < 16
unfolding highest_ceiling
highest_low [] u c = omega arith
highest_low (m ∷ ms) u c = by_cases (eqb m.owner u)
    (λ e. rw e (omega (arith, c 0, highest_low ms u (λ i. c (suc i)))))
    (λ e. rw e (omega (arith, highest_low ms u (λ i. c (suc i)))))

pub low : {k : Rows} → Facts k → (u : ℕ) → priority k u < 16
unfolding priority
low {k} f u = omega (arith, f.bases u, highest_low k.mutexes u f.ceilings)

-- ---- a thread stands elsewhere

-- what a thread needs to stand at a place
abbrev pub Enters : Rows → ℕ → Where → Type 0
Enters k t running = Unit {0}
Enters k t ready = Unit {0}
Enters k t (for_mutex m) = (m < length k.mutexes) × ((mutex k m).owner ≡ 255 → ⊥) × (t ≡ (mutex k m).owner → ⊥) × (priority k t ≤ (mutex k m).ceiling)
Enters k t (on_condition c) = (c < length k.ties) × Waiter k c t

enters_real : (k : Rows) (t : ℕ) (w : Where) → same running w ≡ false → Enters k t w → Real k w
unfolding same
enters_real k t running n e = absurd (true≢false n)
enters_real k t ready n e = tt
enters_real k t (for_mutex m) n e = e.0
enters_real k t (on_condition c) n e = e.0

module _ {k : Rows} (f : Facts k) (t : ℕ) (w : Where) (there : t < length k.threads) where
  -- by who stands there: t itself, or another as before
  was_or_is : {X : Type 0} (v : Where) (u : ℕ) → at (stand k t w) v u ≡ true → (u ≡ t → w ≡ v → X) → (at k v u ≡ true → X) → X
  was_or_is {X} v u e a b = go (eqb u t) refl (sym (at_stand k t w v u there) ∙ e)
    where
      go : (y : Bool) → eqb u t ≡ y → cond y (same w v) (at k v u) ≡ true → X
      go true q z = a (eqb-true u t q) (same_true w v z)
      go false q z = b z

  pub facts_stand : (waits w ≡ true → t ≡ 0 → ⊥) → Enters k t w → Facts (stand k t w)
  unfolding stand
  facts_stand idle enters = record {
    some = rw (length_stand k t w) f.some;
    few = rw (length_stand k t w) f.few;
    few_mutexes = f.few_mutexes;
    few_ties = f.few_ties;
    zero_base = base_stand k t w 0 there ∙ f.zero_base;
    bases = λ u. rw (base_stand k t w u there) (f.bases u);
    bases_from_1 = λ u z l. rw (base_stand k t w u there) (f.bases_from_1 u z (rw (length_stand k t w) at l));
    ceilings = f.ceilings;
    ceilings_from_1 = f.ceilings_from_1;
    idle = rw (stands_stand k t w 0 there) (by_cases (eqb 0 t) (λ e. rw e (refuted (waits w) (λ y. idle y (sym (eqb-true 0 t e))))) (λ e. rw e f.idle));
    idle_owns = f.idle_owns;
    real = λ v u n e. was_or_is v u e (λ a b. subst (λ x. Real k x) b (enters_real k t w (rw (← b) at n) enters)) (f.real v u n);
    free = λ m u e. refuted (at (stand k t w) (for_mutex m) u) (λ y. was_or_is (for_mutex m) u y (λ a b. (in_mutex m b).1 e) (λ z. no_way (at k (for_mutex m) u) z (f.free m u e)));
    uncounted = f.uncounted;
    held = λ m n. record {
      exists = rw (length_stand k t w) (f.held m n).exists;
      some = (f.held m n).some;
      most = (f.held m n).most;
      base = rw (base_stand k t w (mutex k m).owner there) (f.held m n).base;
    };
    waiter_apart = λ m u e. was_or_is (for_mutex m) u e (λ a b z. (in_mutex m b).2 (sym a ∙ z)) (f.waiter_apart m u);
    waiter_below = λ m u e. rw (priority_stand k t w u there) (was_or_is (for_mutex m) u e (λ a b. rw a (in_mutex m b).3) (f.waiter_below m u));
    waiters = λ c u e. as_before c u (was_or_is (on_condition c) u e (λ a b. rw a (in_condition c b).1) (f.waiters c u));
  }
    where
      in_mutex : (m : ℕ) → w ≡ for_mutex m → Enters k t (for_mutex m)
      in_mutex m b = subst (Enters k t) b enters

      in_condition : (c : ℕ) → w ≡ on_condition c → Enters k t (on_condition c)
      in_condition c b = subst (Enters k t) b enters

      as_before : (c u : ℕ) → Waiter k c u → Waiter (stand k t w) c u
      as_before c u x = record { exists = unfold stand in x.exists; free = unfold stand in x.free; base = unfold stand in (rw (base_stand k t w u there) x.base) }

-- the ties stay as they are when a thread moves that waits on no condition variable
pub ties_stand : (k : Rows) → TiesEnd k → (t : ℕ) (w : Where) → t < length k.threads → ((c : ℕ) → at k (on_condition c) t ≡ false) → TiesEnd (stand k t w)
unfolding stand
ties_stand k e t w there away c none = e c (λ u. by_cases (eqb u t) (λ y. rw (eqb-true u t y) (away c)) (λ y. rw y at (sym (at_stand k t w (on_condition c) u there) ∙ none u)))

-- ---- a mutex changes hands

-- between threads that wait for nothing, or from or to nobody
module _ {k : Rows} (f : Facts k) (m t n : ℕ) (real : m < length k.mutexes)
    (old : waits (thread k (mutex k m).owner).stands ≡ false) (new : waits (thread k t).stands ≡ false) where
  -- who waits is neither the old owner nor the new one
  not_old : (w : Where) (u : ℕ) → waits w ≡ true → at k w u ≡ true → (mutex k m).owner ≡ u → ⊥
  unfolding at
  not_old w u z e q = no_way (waits w) z (ap waits (sym (same_true (thread k u).stands w e)) ∙ (rw q at old))

  not_new : (w : Where) (u : ℕ) → waits w ≡ true → at k w u ≡ true → t ≡ u → ⊥
  unfolding at
  not_new w u z e q = no_way (waits w) z (ap waits (sym (same_true (thread k u).stands w e)) ∙ (rw q at new))

  -- the owner of mutex i is t only for m itself, and else as before
  owner_is : (i u : ℕ) → (mutex (own k m t n) i).owner ≡ u → (t ≡ u → ⊥) → (mutex k i).owner ≡ u
  owner_is i u e h = go (eqb i m) (sym (owner_own k m t n i real) ∙ e)
    where
      go : (y : Bool) → cond y t (mutex k i).owner ≡ u → (mutex k i).owner ≡ u
      go true z = absurd (h z)
      go false z = z

  abbrev after : Mutex
  after = record { ceiling = (mutex k m).ceiling; owner = t; count = n }

  pub facts_own : (t ≡ 0 → ⊥) → (t ≡ 255 → (n ≡ 0) × ((u : ℕ) → at k (for_mutex m) u ≡ false))
      → ((t ≡ 255 → ⊥) → Held k (record { ceiling = (mutex k m).ceiling; owner = t; count = n })) → Facts (own k m t n)
  facts_own idle unowned taken = record {
    some = unfold own in f.some;
    few = unfold own in f.few;
    few_mutexes = rw (length_own k m t n) f.few_mutexes;
    few_ties = unfold own in f.few_ties;
    zero_base = unfold own in f.zero_base;
    bases = unfold own in f.bases;
    bases_from_1 = unfold own in f.bases_from_1;
    ceilings = λ i. rw (ceiling_own k m t n i real) (f.ceilings i);
    ceilings_from_1 = λ i l. rw (ceiling_own k m t n i real) (f.ceilings_from_1 i (rw (length_own k m t n) at l));
    idle = unfold own in f.idle;
    idle_owns = λ i e. f.idle_owns i (owner_is i 0 e idle);
    real = λ w u z e. unfold own at in (rw (length_own k m t n) (f.real w u z e));
    free = λ i u e. unfold own at in (nobody_there i u (eqb i m) refl (sym (owner_own k m t n i real) ∙ e));
    uncounted = λ i e. rw (mutex_own k m t n i real) (none i (eqb i m) (rw (mutex_own k m t n i real) at e));
    held = λ i e. rw (mutex_own k m t n i real) (same_threads_lem (cond (eqb i m) after (mutex k i)) (kept i (eqb i m) (rw (mutex_own k m t n i real) at e)));
    waiter_apart = λ i u e z. apart i u (unfold own at in e) (eqb i m) (z ∙ owner_own k m t n i real);
    waiter_below = λ i u e. rw (ceiling_own k m t n i real, unmoved u (for_mutex i) refl (unfold own at in e)) (f.waiter_below i u (unfold own at in e));
    waiters = λ c u e. waiter c u (unfold own at in e);
  }
    where
      nobody_there : (i u : ℕ) (y : Bool) → eqb i m ≡ y → cond y t (mutex k i).owner ≡ 255 → at k (for_mutex i) u ≡ false
      nobody_there i u true q z = rw (eqb-true i m q) ((unowned z).1 u)
      nobody_there i u false q z = f.free i u z

      none : (i : ℕ) (y : Bool) → (cond y after (mutex k i)).owner ≡ 255 → (cond y after (mutex k i)).count ≡ 0
      none i true z = (unowned z).0
      none i false z = f.uncounted i z

      same_threads_lem : (x : Mutex) → Held k x → Held (own k m t n) x
      same_threads_lem x h = unfold own in record { exists = h.exists; some = h.some; most = h.most; base = h.base }

      kept : (i : ℕ) (y : Bool) → ((cond y after (mutex k i)).owner ≡ 255 → ⊥) → Held k (cond y after (mutex k i))
      kept i true z = taken z
      kept i false z = f.held i z

      apart : (i u : ℕ) → at k (for_mutex i) u ≡ true → (y : Bool) → u ≡ cond y t (mutex k i).owner → ⊥
      apart i u e true z = not_new (for_mutex i) u refl e (sym z)
      apart i u e false z = f.waiter_apart i u e z

      unmoved : (u : ℕ) (w : Where) → waits w ≡ true → at k w u ≡ true → priority (own k m t n) u ≡ priority k u
      unmoved u w z e = priority_own k m t n u (not_old w u z e) (not_new w u z e)

      waiter : (c u : ℕ) → at k (on_condition c) u ≡ true → Waiter (own k m t n) c u
      waiter c u e = record {
        exists = unfold own in (rw (length_own k m t n) (f.waiters c u e).exists);
        free = λ i q. (f.waiters c u e).free i (owner_is i u q (not_new (on_condition c) u refl e));
        base = unfold own in (rw (ceiling_own k m t n (tied k c) real) (f.waiters c u e).base);
      }

-- the ties stay as they are
pub ties_own : (k : Rows) (m t n : ℕ) → TiesEnd k → TiesEnd (own k m t n)
unfolding own at
ties_own k m t n e = e

-- ---- a tie changes

-- to a mutex that exists and whose ceiling is not below the base of anyone who waits there
pub facts_tie : {k : Rows} → Facts k → (c m : ℕ) → c < length k.ties
    → ((u : ℕ) → at k (on_condition c) u ≡ true → (m < length k.mutexes) × ((thread k u).base ≤ (mutex k m).ceiling)) → Facts (tie k c m)
facts_tie {k} f c m there fit = record {
  some = unfold tie in f.some;
  few = unfold tie in f.few;
  few_mutexes = unfold tie in f.few_mutexes;
  few_ties = rw (length_tie k c m) f.few_ties;
  zero_base = unfold tie in f.zero_base;
  bases = unfold tie in f.bases;
  bases_from_1 = unfold tie in f.bases_from_1;
  ceilings = unfold tie in f.ceilings;
  ceilings_from_1 = unfold tie in f.ceilings_from_1;
  idle = unfold tie in f.idle;
  idle_owns = unfold tie in f.idle_owns;
  real = real;
  free = unfold tie at in f.free;
  uncounted = unfold tie in f.uncounted;
  held = λ i e. unfold tie in (let h = f.held i e in record { exists = h.exists; some = h.some; most = h.most; base = h.base });
  waiter_apart = unfold tie at in f.waiter_apart;
  waiter_below = unfold tie at priority in f.waiter_below;
  waiters = λ d u e. waiter d u (unfold tie at in e) (eqb d c) refl;
}
  where
    real : (w : Where) (u : ℕ) → same running w ≡ false → at (tie k c m) w u ≡ true → Real (tie k c m) w
    real w u z e = unfold tie at in (rw (length_tie k c m) (f.real w u z e))

    waiter : (d u : ℕ) → at k (on_condition d) u ≡ true → (y : Bool) → eqb d c ≡ y → Waiter (tie k c m) d u
    waiter d u e true q = record {
      exists = rw (tied_tie k c m d there, q) (unfold tie in here.0);
      free = unfold tie in (f.waiters d u e).free;
      base = rw (tied_tie k c m d there, q) (unfold tie in here.1);
    }
      where
        here : (m < length k.mutexes) × ((thread k u).base ≤ (mutex k m).ceiling)
        here = fit u (rw (eqb-true d c q) at e)
    waiter d u e false q = record {
      exists = rw (tied_tie k c m d there, q) (unfold tie in (f.waiters d u e).exists);
      free = unfold tie in (f.waiters d u e).free;
      base = rw (tied_tie k c m d there, q) (unfold tie in (f.waiters d u e).base);
    }

-- where nobody waits any more the tie may end, and where someone waits it may be any
pub ties_tie : (k : Rows) (c m : ℕ) → c < length k.ties → ((d : ℕ) → (d ≡ c → ⊥) → ((u : ℕ) → at k (on_condition d) u ≡ false) → tied k d ≡ 255)
    → (((u : ℕ) → at k (on_condition c) u ≡ false) → m ≡ 255) → TiesEnd (tie k c m)
ties_tie k c m there others itself d none = rw (tied_tie k c m d there) (by_cases (eqb d c)
    (λ q. rw q (itself (λ u. rw (eqb-true d c q) at (before u))))
    (λ q. rw q (others d (eqb-false d c q) before)))
  where
    before : (u : ℕ) → at k (on_condition d) u ≡ false
    before u = unfold tie at in (none u)
