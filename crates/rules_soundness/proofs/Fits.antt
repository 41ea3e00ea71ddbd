-- When a set of queues holds exactly those who stand at one place, each in the queue of its priority and in order of arrival, and how that is
-- kept by an arrival at the back or the front and when the first leaves. Proved once, over any place and any order of arrival.
-- Assumes nothing.
use Prim.Native.Nat.{ℕ, zero, suc, ◌<◌, ◌≤◌, zero-le}
use mathlib.Core.Path.{◌≡◌, refl, sym, ap, ◌∙◌, subst, fun_ext}
use mathlib.Core.Bool.{Bool, true, false, not, ◌||◌, ◌&&◌, false≢true}
use mathlib.Core.List.{List, [], ◌∷◌, ◌++◌, tail}
use native.Mathlib.Omega.{arith}
use native.Mathlib.Decide.{ℕ_discrete}
use lib.ListN.{length, set, length-set, get_or-replicate}
use lib.Seq.{get_or-set_same, get_or-set_other}
use lib.Dec.{eqb, ltb}
use borrow.Author.Tests.{eqb-true, eqb-false, ne_eqb, lt-ltb, le-ltb, ltb-true, ltb-false}
use Rattle.laws.proofs.Bools.{by_cases, no_way, refuted, or_elim, or_right, or_false, or_assoc, or_comm, and-true, and_false, and_left, and_right, and_both, self}
use Rattle.rules.specs.Queues.{QueueSet, empty_set, queue, to_back, to_front, first_leaves, First, nobody, somebody, first_or, first_below, first}
use Rattle.rules.specs.Sound.{mem}
use Rattle.rules_soundness.proofs.Tests.{mem_first}

-- ---- members and order of one queue

mem_back : (u : ℕ) (q : List ℕ) (t : ℕ) → mem u (q ++ (t ∷ [])) ≡ (mem u q || eqb u t)
unfolding mem
mem_back u [] t = or_false (eqb u t)
mem_back u (x ∷ q) t = rw (mem_back u q t) (or_assoc (eqb u x) (mem u q) (eqb u t))

-- each member is before those behind it
abbrev pub Ordered : (ℕ → ℕ → Type 0) → List ℕ → Type 0
Ordered ahead [] = Unit {0}
Ordered ahead (t ∷ q) = ((u : ℕ) → mem u q ≡ true → ahead t u) × Ordered ahead q

ordered_back : (ahead : ℕ → ℕ → Type 0) (q : List ℕ) (t : ℕ) → Ordered ahead q → ((u : ℕ) → mem u q ≡ true → ahead u t) → Ordered ahead (q ++ (t ∷ []))
unfolding mem
ordered_back ahead [] t o h = (λ u e. absurd (false≢true e), tt)
ordered_back ahead (x ∷ q) t o h = (
  λ u e. or_elim (mem u q) (eqb u t) (rw (mem_back u q t) at e) (o.0 u) (λ k. rw (eqb-true u t k) (h x (mem_first x q))),
  ordered_back ahead q t o.1 (λ u e. h u (or_right (eqb u x) (mem u q) e)),
)

pub ordered_mono : (ahead ahead' : ℕ → ℕ → Type 0) (q : List ℕ) → ((u v : ℕ) → mem u q ≡ true → mem v q ≡ true → ahead u v → ahead' u v) → Ordered ahead q → Ordered ahead' q
unfolding mem
ordered_mono a b [] h o = tt
ordered_mono a b (x ∷ q) h o = (
  λ u e. h x u (mem_first x q) (or_right (eqb u x) (mem u q) e) (o.0 u e),
  ordered_mono a b q (λ u v e f. h u v (or_right (eqb u x) (mem u q) e) (or_right (eqb v x) (mem v q) f)) o.1,
)

-- ---- a set of queues

pub record Fits (at : ℕ → Bool) (prio : ℕ → ℕ) (ahead : ℕ → ℕ → Type 0) (qs : QueueSet) : Type 0 where
  pub size : length qs ≡ 16
  pub who : (p u : ℕ) → p < 16 → mem u (queue qs p) ≡ (at u && eqb (prio u) p)
  pub order : (p : ℕ) → p < 16 → Ordered ahead (queue qs p)
  pub low : (u : ℕ) → at u ≡ true → prio u < 16

-- where nobody stands, the empty set fits
pub fits_empty : {at : ℕ → Bool} {prio : ℕ → ℕ} {ahead : ℕ → ℕ → Type 0} → ((u : ℕ) → at u ≡ false) → Fits at prio ahead empty_set
unfolding empty_set mem
fits_empty {at} {prio} {ahead} none = record {
  size = refl;
  who = λ p u h. rw (get_or-replicate {A = List ℕ} 16 p [] [] h, none u);
  order = λ p h. subst (Ordered ahead) (sym (get_or-replicate {A = List ℕ} 16 p [] [] h)) tt;
  low = λ u e. no_way (at u) e (none u);
}

module _ {at : ℕ → Bool} {prio : ℕ → ℕ} {ahead : ℕ → ℕ → Type 0} {qs : QueueSet} (f : Fits at prio ahead qs) where
  -- whoever is in a queue stands there, with its priority, and whoever stands there is in the queue of its priority
  pub here : (p u : ℕ) → p < 16 → mem u (queue qs p) ≡ true → at u ≡ true
  here p u h e = and_left (at u) (eqb (prio u) p) (rw (f.who p u h) at e)

  pub here_prio : (p u : ℕ) → p < 16 → mem u (queue qs p) ≡ true → prio u ≡ p
  here_prio p u h e = eqb-true (prio u) p (and_right (at u) (eqb (prio u) p) (rw (f.who p u h) at e))

  pub there : (u : ℕ) → at u ≡ true → mem u (queue qs (prio u)) ≡ true
  there u e = rw (f.who (prio u) u (f.low u e)) (and_both (at u) (eqb (prio u) (prio u)) e (self (prio u)))

  -- what else changes, no one who stands here
  pub fits_frame : {at' : ℕ → Bool} {prio' : ℕ → ℕ} {ahead' : ℕ → ℕ → Type 0} → ((u : ℕ) → at' u ≡ at u) → ((u : ℕ) → at u ≡ true → prio' u ≡ prio u)
      → ((u v : ℕ) → at u ≡ true → at v ≡ true → ahead u v → ahead' u v) → Fits at' prio' ahead' qs
  fits_frame {at'} {prio'} {ahead'} a p b = record {
    size = f.size;
    who = λ k u h. f.who k u h ∙ alike u k;
    order = λ k h. ordered_mono ahead ahead' (queue qs k) (λ u v e g. b u v (here k u h e) (here k v h g)) (f.order k h);
    low = λ u e. rw (p u (sym (a u) ∙ e)) (f.low u (sym (a u) ∙ e));
  }
    where
      alike : (u k : ℕ) → (at u && eqb (prio u) k) ≡ (at' u && eqb (prio' u) k)
      alike u k = by_cases (at u) (λ e. rw (a u, p u e)) (λ e. rw (a u, e))

  -- the queue of priority p becomes q, and who stands at other priorities is left
  module _ {at' : ℕ → Bool} (p : ℕ) (low : p < 16) (rest : (u : ℕ) → eqb (prio u) p ≡ false → at' u ≡ at u) where
    at_p : (q : List ℕ) → queue (set qs p q) p ≡ q
    at_p q = get_or-set_same qs p q [] (rw f.size low)

    fits_set : (q : List ℕ) → ((u : ℕ) → mem u q ≡ (at' u && eqb (prio u) p)) → Ordered ahead q → Fits at' prio ahead (set qs p q)
    fits_set q m o = record {
      size = length-set qs p q ∙ f.size;
      who = λ k u h. who k u h (ℕ_discrete k p);
      order = λ k h. order k h (ℕ_discrete k p);
      low = λ u e. by_cases (eqb (prio u) p) (λ y. rw (eqb-true (prio u) p y) low) (λ n. f.low u (sym (rest u n) ∙ e));
    }
      where
        other : (k u : ℕ) → (k ≡ p → ⊥) → (at u && eqb (prio u) k) ≡ (at' u && eqb (prio u) k)
        other k u n = by_cases (eqb (prio u) k)
            (λ e. rw (rest u (ne_eqb (prio u) p (λ g. n (sym (eqb-true (prio u) k e) ∙ g)))))
            (λ e. rw e (and_false (at u) ∙ sym (and_false (at' u))))

        who : (k u : ℕ) → k < 16 → Dec (k ≡ p) → mem u (queue (set qs p q) k) ≡ (at' u && eqb (prio u) k)
        who k u h (yes e) = rw (e, at_p q) (m u)
        who k u h (no n) = rw (get_or-set_other qs p k q [] n) (f.who k u h ∙ other k u n)

        order : (k : ℕ) → k < 16 → Dec (k ≡ p) → Ordered ahead (queue (set qs p q) k)
        order k h (yes e) = rw (e, at_p q) o
        order k h (no n) = rw (get_or-set_other qs p k q [] n) (f.order k h)

  -- t arrives in the queue of its priority, behind or in front of all who stand here
  module _ {at' : ℕ → Bool} (t : ℕ) (away : at t ≡ false) (low : prio t < 16) (joins : (u : ℕ) → at' u ≡ (at u || eqb u t)) where
    rest : (u : ℕ) → eqb (prio u) (prio t) ≡ false → at' u ≡ at u
    rest u n = joins u ∙ rw (ne_eqb u t (λ e. eqb-false (prio u) (prio t) n (ap prio e))) (or_false (at u))

    joined : (u : ℕ) → (mem u (queue qs (prio t)) || eqb u t) ≡ (at' u && eqb (prio u) (prio t))
    joined u = rw (f.who (prio t) u low, joins u) (by_cases (eqb u t) (λ e. rw (eqb-true u t e, self t, self (prio t), away)) (λ e. simp (e, or_false)))

    pub fits_back : ((u : ℕ) → at u ≡ true → ahead u t) → Fits at' prio ahead (to_back qs (prio t) t)
    unfolding to_back
    fits_back b = fits_set (prio t) low rest (queue qs (prio t) ++ (t ∷ [])) (λ u. mem_back u (queue qs (prio t)) t ∙ joined u)
        (ordered_back ahead (queue qs (prio t)) t (f.order (prio t) low) (λ u e. b u (here (prio t) u low e)))

    pub fits_front : ((u : ℕ) → at u ≡ true → ahead t u) → Fits at' prio ahead (to_front qs (prio t) t)
    unfolding to_front mem
    fits_front b = fits_set (prio t) low rest (t ∷ queue qs (prio t)) (λ u. or_comm (eqb u t) (mem u (queue qs (prio t))) ∙ joined u)
        (λ u e. b u (here (prio t) u low e), f.order (prio t) low)

  -- the first of queue p leaves
  module _ (irrefl : (u : ℕ) → ahead u u → ⊥) {at' : ℕ → Bool} (p t : ℕ) (q : List ℕ) (low : p < 16) (is : queue qs p ≡ t ∷ q)
      (leaves : (u : ℕ) → at' u ≡ (at u && not (eqb u t))) where
    ordered : Ordered ahead (t ∷ q)
    ordered = subst (Ordered ahead) is (f.order p low)

    first_in : mem t (queue qs p) ≡ true
    first_in = rw is (mem_first t q)

    gone : mem t q ≡ false
    gone = refuted (mem t q) (λ e. irrefl t (ordered.0 t e))

    left : (u : ℕ) → mem u q ≡ (at' u && eqb (prio u) p)
    unfolding mem
    left u = rw (leaves u) (by_cases (eqb u t)
        (λ e. rw (eqb-true u t e, self t, gone, and_false (at t)))
        (λ e. rw (e, and-true (at u)) (simp e at (sym (ap (mem u) is) ∙ f.who p u low))))

    pub fits_leave : Fits at' prio ahead (first_leaves qs p)
    unfolding first_leaves
    fits_leave = rw is (fits_set p low
        (λ u n. leaves u ∙ rw (ne_eqb u t (λ e. eqb-false (prio u) p n (ap prio e ∙ here_prio p t low first_in)), and-true (at u)))
        q left ordered.1)

-- ---- who is first

-- the first has the highest priority, and is ahead of all others who have it
abbrev pub IsFirst : (ℕ → Bool) → (ℕ → ℕ) → (ℕ → ℕ → Type 0) → First → Type 0
IsFirst at prio ahead nobody = (u : ℕ) → at u ≡ false
IsFirst at prio ahead (somebody p t) = (at t ≡ true) × (prio t ≡ p) × ((u : ℕ) → at u ≡ true → prio u ≤ p) × ((u : ℕ) → at u ≡ true → prio u ≡ p → (u ≡ t → ⊥) → ahead t u)

module _ {at : ℕ → Bool} {prio : ℕ → ℕ} {ahead : ℕ → ℕ → Type 0} {qs : QueueSet} (f : Fits at prio ahead qs) where
  -- who stands here at a priority below k
  below : ℕ → ℕ → Bool
  below k u = at u && ltb (prio u) k

  same_first : {a b : ℕ → Bool} (x : First) → ((u : ℕ) → a u ≡ b u) → IsFirst a prio ahead x → IsFirst b prio ahead x
  same_first x e h = subst (λ (c : ℕ → Bool). IsFirst c prio ahead x) (fun_ext e) h

  wider : (k : ℕ) → ((u : ℕ) → at u ≡ true → prio u ≡ k → ⊥) → (u : ℕ) → below k u ≡ below (suc k) u
  unfolding below
  wider k none u = by_cases (at u)
      (λ e. rw e (by_cases (ltb (prio u) k)
      (λ l. rw l (sym (lt-ltb (prio u) (suc k) (omega (arith, ltb-true (prio u) k l)))))
      (λ l. rw l (sym (le-ltb (prio u) (suc k) (omega (arith, ltb-false (prio u) k l, none u e)))))))
      (λ e. rw e)

  first_step : (k : ℕ) → k < 16 → (q : List ℕ) → queue qs k ≡ q → IsFirst (below k) prio ahead (first_below k qs) → IsFirst (below (suc k)) prio ahead (first_or q k (first_below k qs))
  unfolding mem below
  first_step k h [] is i = same_first (first_below k qs) (wider k (λ u e g. false≢true (ap (mem u) (sym is) ∙ (rw g at (there f u e))))) i
  first_step k h (t ∷ q) is i = (
    rw (here f k t h in_t, lt-ltb (prio t) (suc k) (omega (arith, here_prio f k t h in_t))),
    here_prio f k t h in_t,
    λ u e. omega (arith, ltb-true (prio u) (suc k) (and_right (at u) (ltb (prio u) (suc k)) e)),
    λ u e g n. or_elim (eqb u t) (mem u q) (ap (mem u) (sym is) ∙ (rw g at (there f u (and_left (at u) (ltb (prio u) (suc k)) e))))
        (λ y. absurd (n (eqb-true u t y))) ((subst (Ordered ahead) is (f.order k h)).0 u),
  )
    where
      in_t : mem t (queue qs k) ≡ true
      in_t = rw is (mem_first t q)

  first_below_lem : (k : ℕ) → k ≤ 16 → IsFirst (below k) prio ahead (first_below k qs)
  unfolding first_below below
  first_below_lem zero h = λ u. rw (le-ltb (prio u) 0 zero-le, and_false (at u))
  first_below_lem (suc k) h = first_step k (omega arith) (queue qs k) refl (first_below_lem k (omega arith))

  pub fits_first : IsFirst at prio ahead (first qs)
  unfolding below
  fits_first = same_first (first qs) (λ u. by_cases (at u) (λ e. rw (e, lt-ltb (prio u) 16 (f.low u e))) (λ e. rw e)) (first_below_lem 16 (omega arith))

-- ---- the first as the head of its queue

nobody≢ : {k t : ℕ} → nobody ≡ somebody k t → ⊥
nobody≢ e = let z : ◌≡◌ {A = ℕ} 0 1 = cc in omega arith

pub first_queue : (n : ℕ) (qs : QueueSet) (k t : ℕ) → first_below n qs ≡ somebody k t → (k < n) × (queue qs k ≡ t ∷ tail (queue qs k))
unfolding first_below
first_queue zero qs k t e = absurd (nobody≢ e)
first_queue (suc n) qs k t e = go (first_queue n qs k t) (queue qs n) refl e
  where
    go : (first_below n qs ≡ somebody k t → (k < n) × (queue qs k ≡ t ∷ tail (queue qs k))) → (q : List ℕ) → queue qs n ≡ q
        → first_or q n (first_below n qs) ≡ somebody k t → (k < suc n) × (queue qs k ≡ t ∷ tail (queue qs k))
    go ih [] i j = (omega (arith, (ih j).0), (ih j).1)
    go ih (x ∷ q) i j =
        let a : n ≡ k = cc in
        let c : x ≡ t = cc in
        (omega arith, rw (← a, i, c))
