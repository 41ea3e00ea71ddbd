-- What standing, owning and tying change in the rows, and what they leave; the sets of queues after one is put.
-- Assumes nothing.
use Prim.Native.Nat.{ℕ, zero, suc, ◌+◌, ◌<◌, ◌≤◌, max}
use mathlib.Core.Path.{◌≡◌, refl, sym, ap, ◌∙◌}
use mathlib.Core.Bool.{Bool, true, false, cond, false≢true, true≢false}
use mathlib.Core.List.{List, [], ◌∷◌}
use native.Mathlib.Omega.{arith}
use lib.ListN.{length, get_or, set, length-set, get_or-eq_default}
use lib.Seq.{get_or-set_same, get_or-set_other}
use lib.Dec.{eqb, ltb}
use borrow.Author.Tests.{eqb-true, eqb-false, eq-eqb, ne_eqb, ltb-true, ltb-false}
use Rattle.laws.proofs.Bools.{by_cases, no_way, self}
use Rattle.rules.specs.Queues.{QueueSet, empty_set}
use Rattle.rules.specs.State.{Where, running, ready, for_mutex, on_condition, same, Thread, Mutex, Rows, Sets, no_thread, no_mutex, thread, mutex, tied, at, highest_ceiling, priority, owned, stand, own, tie, set_at, put_set}

-- ---- places

pub same_self : (w : Where) → same w w ≡ true
unfolding same
same_self running = refl
same_self ready = refl
same_self (for_mutex m) = self m
same_self (on_condition c) = self c

pub same_true : (w v : Where) → same w v ≡ true → w ≡ v
unfolding same
same_true running running e = refl
same_true running ready e = absurd (false≢true e)
same_true running (for_mutex n) e = absurd (false≢true e)
same_true running (on_condition d) e = absurd (false≢true e)
same_true ready running e = absurd (false≢true e)
same_true ready ready e = refl
same_true ready (for_mutex n) e = absurd (false≢true e)
same_true ready (on_condition d) e = absurd (false≢true e)
same_true (for_mutex m) running e = absurd (false≢true e)
same_true (for_mutex m) ready e = absurd (false≢true e)
same_true (for_mutex m) (for_mutex n) e = ap for_mutex (eqb-true m n e)
same_true (for_mutex m) (on_condition d) e = absurd (false≢true e)
same_true (on_condition c) running e = absurd (false≢true e)
same_true (on_condition c) ready e = absurd (false≢true e)
same_true (on_condition c) (for_mutex n) e = absurd (false≢true e)
same_true (on_condition c) (on_condition d) e = ap on_condition (eqb-true c d e)

-- a place with queues, where there are m mutexes and c condition variables
abbrev pub Within : ℕ → ℕ → Where → Type 0
Within m c running = ⊥
Within m c ready = Unit {0}
Within m c (for_mutex i) = i < m
Within m c (on_condition i) = i < c

abbrev pub Real : Rows → Where → Type 0
Real k w = Within (length k.mutexes) (length k.ties) w

abbrev pub Has : Sets → Where → Type 0
Has s w = Within (length s.mutex) (length s.condition) w

pub not_running : (m c : ℕ) (w : Where) → Within m c w → same running w ≡ false
unfolding same
not_running m c running r = absurd r
not_running m c ready r = refl
not_running m c (for_mutex i) r = refl
not_running m c (on_condition i) r = refl

-- who stands at a place where threads can wait or be ready exists
pub standing_exists : (k : Rows) (w : Where) (t : ℕ) → same running w ≡ false → at k w t ≡ true → t < length k.threads
unfolding at
standing_exists k w t n e = go (ltb t (length k.threads)) refl
  where
    open_end : length k.threads ≤ t → ⊥
    open_end h = no_way (same running w) (sym (ap (λ (x : Thread). same x.stands w) (get_or-eq_default k.threads no_thread h)) ∙ e) n

    go : (b : Bool) → ltb t (length k.threads) ≡ b → t < length k.threads
    go true q = ltb-true t (length k.threads) q
    go false q = absurd (open_end (ltb-false t (length k.threads) q))

-- ---- stand

pub thread_stand : (k : Rows) (t : ℕ) (w : Where) (u : ℕ) → t < length k.threads → thread (stand k t w) u ≡ cond (eqb u t) (record { base = (thread k t).base; stands = w }) (thread k u)
unfolding stand
thread_stand k t w u h = by_cases (eqb u t)
    (λ e. rw (e, eqb-true u t e) (get_or-set_same k.threads t (record { base = (thread k t).base; stands = w }) no_thread h))
    (λ e. rw e (get_or-set_other k.threads t u (record { base = (thread k t).base; stands = w }) no_thread (eqb-false u t e)))

pub base_stand : (k : Rows) (t : ℕ) (w : Where) (u : ℕ) → t < length k.threads → (thread (stand k t w) u).base ≡ (thread k u).base
base_stand k t w u h = rw (thread_stand k t w u h) (by_cases (eqb u t) (λ e. rw (e, eqb-true u t e)) (λ e. rw e))

pub stands_stand : (k : Rows) (t : ℕ) (w : Where) (u : ℕ) → t < length k.threads → (thread (stand k t w) u).stands ≡ cond (eqb u t) w (thread k u).stands
stands_stand k t w u h = rw (thread_stand k t w u h) (by_cases (eqb u t) (λ e. rw e) (λ e. rw e))

pub at_stand : (k : Rows) (t : ℕ) (w v : Where) (u : ℕ) → t < length k.threads → at (stand k t w) v u ≡ cond (eqb u t) (same w v) (at k v u)
unfolding at
at_stand k t w v u h = rw (stands_stand k t w u h) (by_cases (eqb u t) (λ e. rw e) (λ e. rw e))

pub priority_stand : (k : Rows) (t : ℕ) (w : Where) (u : ℕ) → t < length k.threads → priority (stand k t w) u ≡ priority k u
unfolding priority stand
priority_stand k t w u h = ap (λ x. max x (highest_ceiling k.mutexes u)) (unfold stand in base_stand k t w u h)

pub length_stand : (k : Rows) (t : ℕ) (w : Where) → length (stand k t w).threads ≡ length k.threads
unfolding stand
length_stand k t w = length-set k.threads t (record { base = (thread k t).base; stands = w })

-- ---- own

-- mutex m after its owner and count are set
pub mutex_own : (k : Rows) (m t n i : ℕ) → m < length k.mutexes → mutex (own k m t n) i ≡ cond (eqb i m) (record { ceiling = (mutex k m).ceiling; owner = t; count = n }) (mutex k i)
unfolding own
mutex_own k m t n i h = by_cases (eqb i m)
    (λ e. rw (e, eqb-true i m e) (get_or-set_same k.mutexes m (record { ceiling = (mutex k m).ceiling; owner = t; count = n }) no_mutex h))
    (λ e. rw e (get_or-set_other k.mutexes m i (record { ceiling = (mutex k m).ceiling; owner = t; count = n }) no_mutex (eqb-false i m e)))

pub ceiling_own : (k : Rows) (m t n i : ℕ) → m < length k.mutexes → (mutex (own k m t n) i).ceiling ≡ (mutex k i).ceiling
ceiling_own k m t n i h = rw (mutex_own k m t n i h) (by_cases (eqb i m) (λ e. rw (e, eqb-true i m e)) (λ e. rw e))

pub owner_own : (k : Rows) (m t n i : ℕ) → m < length k.mutexes → (mutex (own k m t n) i).owner ≡ cond (eqb i m) t (mutex k i).owner
owner_own k m t n i h = rw (mutex_own k m t n i h) (by_cases (eqb i m) (λ e. rw e) (λ e. rw e))

pub length_own : (k : Rows) (m t n : ℕ) → length (own k m t n).mutexes ≡ length k.mutexes
unfolding own
length_own k m t n = length-set k.mutexes m (record { ceiling = (mutex k m).ceiling; owner = t; count = n })

highest_set : (ms : List Mutex) (m : ℕ) (x : Mutex) (u : ℕ) → eqb (get_or ms m no_mutex).owner u ≡ false → eqb x.owner u ≡ false → highest_ceiling (set ms m x) u ≡ highest_ceiling ms u
unfolding highest_ceiling
highest_set [] m x u e g = refl
highest_set (y ∷ ms) zero x u e g = rw (e, g)
highest_set (y ∷ ms) (suc m) x u e g = ap (max (cond (eqb y.owner u) y.ceiling 0)) (highest_set ms m x u e g)

-- the priority of whoever neither was the owner nor becomes it
pub priority_own : (k : Rows) (m t n u : ℕ) → ((mutex k m).owner ≡ u → ⊥) → (t ≡ u → ⊥) → priority (own k m t n) u ≡ priority k u
unfolding priority own
priority_own k m t n u a b = ap (max (thread k u).base) (highest_set k.mutexes m (record { ceiling = (mutex k m).ceiling; owner = t; count = n }) u (ne_eqb (mutex k m).owner u a) (ne_eqb t u b))

-- who owns nothing has no owned mutex, and the other way round
pub owned_none : (ms : List Mutex) (t : ℕ) → owned ms t ≡ 0 → (t ≡ 255 → ⊥) → (m : ℕ) → (get_or ms m no_mutex).owner ≡ t → ⊥
unfolding owned
owned_none [] t e n m q = n (sym q)
owned_none (x ∷ ms) t e n zero q = go (rw (eq-eqb x.owner t q) at e)
  where
    go : 1 + owned ms t ≡ 0 → ⊥
    go z = omega arith
owned_none (x ∷ ms) t e n (suc m) q = owned_none ms t (omega (arith, e)) n m q

pub none_owned : (ms : List Mutex) (t : ℕ) → ((m : ℕ) → (get_or ms m no_mutex).owner ≡ t → ⊥) → owned ms t ≡ 0
unfolding owned
none_owned [] t h = refl
none_owned (x ∷ ms) t h = rw (ne_eqb x.owner t (h 0)) (omega (arith, none_owned ms t (λ m. h (suc m))))

-- who owns nothing has its base for priority
highest_none : (ms : List Mutex) (t : ℕ) → ((m : ℕ) → (get_or ms m no_mutex).owner ≡ t → ⊥) → highest_ceiling ms t ≡ 0
unfolding highest_ceiling
highest_none [] t h = refl
highest_none (x ∷ ms) t h = rw (ne_eqb x.owner t (h 0), highest_none ms t (λ m. h (suc m)))

pub priority_base : (k : Rows) (t : ℕ) → ((m : ℕ) → (mutex k m).owner ≡ t → ⊥) → priority k t ≡ (thread k t).base
unfolding priority
priority_base k t h = omega (arith, highest_none k.mutexes t h)

pub base_below : (k : Rows) (t : ℕ) → (thread k t).base ≤ priority k t
unfolding priority
base_below k t = omega arith

-- ---- tie

pub tied_tie : (k : Rows) (c m i : ℕ) → c < length k.ties → tied (tie k c m) i ≡ cond (eqb i c) m (tied k i)
unfolding tie
tied_tie k c m i h = by_cases (eqb i c)
    (λ e. rw (e, eqb-true i c e) (get_or-set_same k.ties c m 255 h))
    (λ e. rw e (get_or-set_other k.ties c i m 255 (eqb-false i c e)))

pub length_tie : (k : Rows) (c m : ℕ) → length (tie k c m).ties ≡ length k.ties
unfolding tie
length_tie k c m = length-set k.ties c m

-- ---- the sets of queues

pub set_same : (s : Sets) (w : Where) (q : QueueSet) → Has s w → set_at (put_set s w q) w ≡ q
unfolding set_at put_set
set_same s running q h = absurd h
set_same s ready q h = refl
set_same s (for_mutex m) q h = get_or-set_same s.mutex m q empty_set h
set_same s (on_condition c) q h = get_or-set_same s.condition c q empty_set h

pub set_other : (s : Sets) (w v : Where) (q : QueueSet) → same w v ≡ false → set_at (put_set s w q) v ≡ set_at s v
unfolding set_at put_set same
set_other s running v q e = refl
set_other s ready running q e = refl
set_other s ready ready q e = absurd (true≢false e)
set_other s ready (for_mutex n) q e = refl
set_other s ready (on_condition d) q e = refl
set_other s (for_mutex m) running q e = refl
set_other s (for_mutex m) ready q e = refl
set_other s (for_mutex m) (for_mutex n) q e = get_or-set_other s.mutex m n q empty_set (λ g. eqb-false m n e (sym g))
set_other s (for_mutex m) (on_condition d) q e = refl
set_other s (on_condition c) running q e = refl
set_other s (on_condition c) ready q e = refl
set_other s (on_condition c) (for_mutex n) q e = refl
set_other s (on_condition c) (on_condition d) q e = get_or-set_other s.condition c d q empty_set (λ g. eqb-false c d e (sym g))

pub mutex_sets : (s : Sets) (w : Where) (q : QueueSet) → length (put_set s w q).mutex ≡ length s.mutex
unfolding put_set
mutex_sets s running q = refl
mutex_sets s ready q = refl
mutex_sets s (for_mutex m) q = length-set s.mutex m q
mutex_sets s (on_condition c) q = refl

pub condition_sets : (s : Sets) (w : Where) (q : QueueSet) → length (put_set s w q).condition ≡ length s.condition
unfolding put_set
condition_sets s running q = refl
condition_sets s ready q = refl
condition_sets s (for_mutex m) q = refl
condition_sets s (on_condition c) q = length-set s.condition c q
