-- How the queues are kept: when one leaves its place, as the first there does, when a thread that stands nowhere arrives, when a mutex changes hands between
-- threads that are in no queue.
-- Assumes nothing.
use Prim.Native.Nat.{ℕ, ◌<◌, ◌≤◌}
use mathlib.Core.Path.{◌≡◌, refl, sym, ap, ◌∙◌, subst}
use mathlib.Core.Bool.{true, false, not, ◌||◌, ◌&&◌}
use mathlib.Core.List.{tail}
use lib.ListN.{length, set}
use lib.Seq.{set-set}
use lib.Dec.{eqb}
use borrow.Author.Tests.{eqb-true}
use Rattle.laws.proofs.Bools.{by_cases, no_way, or_false, or_right, and-true, and_false}
use Rattle.rules.specs.Queues.{QueueSet, queue, to_back, to_front, first_leaves, nobody, somebody, first}
use Rattle.rules.specs.State.{Where, running, ready, for_mutex, on_condition, same, Rows, Sets, thread, mutex, at, priority, with_threads, stand, own, tie, set_at, put_set}
use Rattle.rules_soundness.proofs.Fits.{Fits, IsFirst, fits_frame, fits_back, fits_front, fits_leave, fits_first, first_queue}
use Rattle.rules_soundness.proofs.Rows.{same_self, same_true, Real, Has, not_running, standing_exists, at_stand, base_stand, priority_stand, length_own, length_tie, priority_own, set_same, set_other, mutex_sets, condition_sets}
use Rattle.rules_soundness.proofs.Facts.{Apart, Queued}

-- a place of the rows has a set of queues
has : {k : Rows} {s : Sets} → Queued k s → (w : Where) → Real k w → Has s w
has q running r = r
has q ready r = r
has q (for_mutex m) r = rw q.mutexes r
has q (on_condition c) r = rw q.conditions r

-- one set is put, and the others fit as they are
module _ {k : Rows} {s : Sets} (q : Queued k s) (k' : Rows) (w : Where) (r : Real k w) (x : QueueSet)
    (mutexes : length k'.mutexes ≡ length k.mutexes) (ties : length k'.ties ≡ length k.ties) where
  real_back : (v : Where) → Real k' v → Real k v
  real_back running z = z
  real_back ready z = z
  real_back (for_mutex m) z = rw mutexes at z
  real_back (on_condition c) z = rw ties at z

  queued_put : Fits (at k' w) (priority k') Apart x
      → ((v : Where) → Real k v → same w v ≡ false → Fits (at k v) (priority k) Apart (set_at s v) → Fits (at k' v) (priority k') Apart (set_at s v))
      → Queued k' (put_set s w x)
  queued_put f others = record {
    mutexes = mutex_sets s w x ∙ q.mutexes ∙ sym mutexes;
    conditions = condition_sets s w x ∙ q.conditions ∙ sym ties;
    fits = λ v z. by_cases (same w v)
        (λ e. let eq : w ≡ v = same_true w v e in subst (λ u. Fits (at k' u) (priority k') Apart (set_at (put_set s w x) u)) eq (rw (set_same s w x (has q w r)) f))
        (λ e. rw (set_other s w v x e) (others v (real_back v z) e (q.fits v (real_back v z))));
  }

-- ---- leaving

module _ {k : Rows} {s : Sets} (q : Queued k s) (w : Where) (r : Real k w) (t : ℕ) (stood : at k w t ≡ true) where
  -- who stands at w exists
  stood_exists : t < length k.threads
  stood_exists = standing_exists k w t (not_running (length k.mutexes) (length k.ties) w r) stood

  -- it stands nowhere else
  stood_stands : (thread k t).stands ≡ w
  stood_stands = same_true (thread k t).stands w (unfold at in stood)

  -- who stands where once it stands nowhere: the others
  pub left : (v : Where) → Real k v → (u : ℕ) → at (stand k t running) v u ≡ (at k v u && not (eqb u t))
  left v z u = at_stand k t running v u stood_exists ∙ by_cases (eqb u t)
      (λ y. rw (y, not_running (length k.mutexes) (length k.ties) v z) (sym (and_false (at k v u))))
      (λ y. rw y (sym (and-true (at k v u))))

  -- the queues are kept with any set at w that fits without it
  pub queued_gone : (x : QueueSet) → Fits (at (stand k t running) w) (priority k) Apart x → Queued (stand k t running) (put_set s w x)
  queued_gone x gone = queued_put q (stand k t running) w r x (unfold stand in refl) (unfold stand in refl)
      (fits_frame gone (λ u. refl) (λ u z. prio u) (λ u v a b z. z)) others
    where
      prio : (u : ℕ) → priority (stand k t running) u ≡ priority k u
      prio u = priority_stand k t running u stood_exists

      others : (v : Where) → Real k v → same w v ≡ false → Fits (at k v) (priority k) Apart (set_at s v) → Fits (at (stand k t running) v) (priority (stand k t running)) Apart (set_at s v)
      others v z n f = fits_frame f (λ u. left v z u ∙ by_cases (eqb u t)
          (λ y. rw (y, and_false (at k v u), eqb-true u t y) (sym (away v n)))
          (λ y. rw (y, and-true (at k v u)))) (λ u z. prio u) (λ u v a b z. z)
        where
          away : (v : Where) → same w v ≡ false → at k v t ≡ false
          away v n = unfold at in (rw stood_stands n)

module _ {k : Rows} {s : Sets} (q : Queued k s) (w : Where) (r : Real k w) (p t : ℕ) (e : first (set_at s w) ≡ somebody p t) where
  is_first : IsFirst (at k w) (priority k) Apart (somebody p t)
  is_first = subst (IsFirst (at k w) (priority k) Apart) e (fits_first (q.fits w r))

  -- the first stands there, exists, has that priority, and none there is above it
  pub first_at_lem : at k w t ≡ true
  first_at_lem = is_first.0

  pub first_stands : (thread k t).stands ≡ w
  first_stands = stood_stands q w r t first_at_lem

  pub first_exists : t < length k.threads
  first_exists = stood_exists q w r t first_at_lem

  pub first_priority : priority k t ≡ p
  first_priority = is_first.1

  pub first_highest : (u : ℕ) → at k w u ≡ true → priority k u ≤ p
  first_highest = is_first.2

  -- it leaves its queue and stands nowhere
  pub queued_leave : Queued (stand k t running) (put_set s w (first_leaves (set_at s w) p))
  queued_leave = queued_gone q w r t first_at_lem (first_leaves (set_at s w) p)
      (fits_leave (q.fits w r) (λ u z. z refl) {at' = at (stand k t running) w} p t (tail (queue (set_at s w) p)) (first_queue 16 (set_at s w) p t e).0 (first_queue 16 (set_at s w) p t e).1 (left q w r t first_at_lem w r))

-- nobody is first where nobody stands
pub nobody_at : {k : Rows} {s : Sets} → Queued k s → (w : Where) → Real k w → first (set_at s w) ≡ nobody → (u : ℕ) → at k w u ≡ false
nobody_at {k} q w r e = subst (IsFirst (at k w) (priority k) Apart) e (fits_first (q.fits w r))

-- ---- arriving

module _ {k : Rows} {s : Sets} (q : Queued k s) (t : ℕ) (w : Where) (there : t < length k.threads) (nowhere : (thread k t).stands ≡ running) (r : Real k w) (low : priority k t < 16) where
  not_in : (v : Where) → Real k v → at k v t ≡ false
  not_in v z = unfold at in (rw nowhere (not_running (length k.mutexes) (length k.ties) v z))

  arrived : (u : ℕ) → at (stand k t w) w u ≡ (at k w u || eqb u t)
  arrived u = at_stand k t w w u there ∙ by_cases (eqb u t)
      (λ y. rw (y, same_self w) (sym (or_right (at k w u) true refl)))
      (λ y. rw (y, or_false (at k w u)))

  prio_arrived : (u : ℕ) → priority (stand k t w) u ≡ priority k u
  prio_arrived u = priority_stand k t w u there

  elsewhere : (v : Where) → Real k v → same w v ≡ false → Fits (at k v) (priority k) Apart (set_at s v) → Fits (at (stand k t w) v) (priority (stand k t w)) Apart (set_at s v)
  elsewhere v z n f = fits_frame f (λ u. at_stand k t w v u there ∙ by_cases (eqb u t)
      (λ y. rw (y, n, eqb-true u t y) (sym (not_in v z)))
      (λ y. rw y)) (λ u z. prio_arrived u) (λ u v a b z. z)

  apart : (u : ℕ) → at k w u ≡ true → u ≡ t → ⊥
  apart u e z = no_way (at k w t) (rw z at e) (not_in w r)

  pub queued_arrive : Queued (stand k t w) (put_set s w (to_back (set_at s w) (priority k t) t))
  queued_arrive = queued_put q (stand k t w) w r (to_back (set_at s w) (priority k t) t) (unfold stand in refl) (unfold stand in refl)
      (fits_frame (fits_back (q.fits w r) {at' = at (stand k t w) w} t (not_in w r) low arrived apart) (λ u. refl) (λ u z. prio_arrived u) (λ u v a b z. z)) elsewhere

  pub queued_front : Queued (stand k t w) (put_set s w (to_front (set_at s w) (priority k t) t))
  queued_front = queued_put q (stand k t w) w r (to_front (set_at s w) (priority k t) t) (unfold stand in refl) (unfold stand in refl)
      (fits_frame (fits_front (q.fits w r) {at' = at (stand k t w) w} t (not_in w r) low arrived (λ u e z. apart u e (sym z))) (λ u. refl) (λ u z. prio_arrived u) (λ u v a b z. z)) elsewhere

-- a thread that stands somewhere, then elsewhere, stands elsewhere
pub stand_stand : (k : Rows) (t : ℕ) (v w : Where) → t < length k.threads → stand (stand k t v) t w ≡ stand k t w
unfolding stand
stand_stand k t v w there =
    ap (with_threads k) (set-set k.threads t (record { base = (thread k t).base; stands = v }) (record { base = (thread (stand k t v) t).base; stands = w })
    ∙ ap (λ b. set k.threads t (record { base = b; stands = w })) (base_stand k t v t there))

-- ---- changing hands

-- a mutex that changes hands moves no thread
at_own : (k : Rows) (m t n : ℕ) (w : Where) (u : ℕ) → at (own k m t n) w u ≡ at k w u
unfolding own at
at_own k m t n w u = refl

-- who runs stands at no place of waiting, nor among the ready
runs_elsewhere : (k : Rows) (w : Where) → Real k w → (u x : ℕ) → (thread k x).stands ≡ running → x ≡ u → at k w u ≡ false
unfolding at
runs_elsewhere k w r u x z y = rw (← y, z) (not_running (length k.mutexes) (length k.ties) w r)

pub queued_own : {k : Rows} {s : Sets} → Queued k s → (m t n : ℕ) → (thread k (mutex k m).owner).stands ≡ running → (thread k t).stands ≡ running → Queued (own k m t n) s
queued_own {k} {s} q m t n old new = record {
  mutexes = q.mutexes ∙ sym (length_own k m t n);
  conditions = unfold own in q.conditions;
  fits = λ w r. fits w (back w r);
}
  where
    back : (w : Where) → Real (own k m t n) w → Real k w
    back running r = r
    back ready r = r
    back (for_mutex i) r = rw (length_own k m t n) at r
    back (on_condition c) r = unfold own in r

    aside : (w : Where) → Real k w → (u x : ℕ) → (thread k x).stands ≡ running → at k w u ≡ true → x ≡ u → ⊥
    aside w r u x z e y = no_way (at k w u) e (runs_elsewhere k w r u x z y)

    fits : (w : Where) → Real k w → Fits (at (own k m t n) w) (priority (own k m t n)) Apart (set_at s w)
    fits w r = fits_frame (q.fits w r) (λ u. at_own k m t n w u) (λ u e. priority_own k m t n u (aside w r u (mutex k m).owner old e) (aside w r u t new e)) (λ u v a b z. z)

pub queued_tie : {k : Rows} {s : Sets} → Queued k s → (c m : ℕ) → Queued (tie k c m) s
queued_tie {k} {s} q c m = record { mutexes = unfold tie in q.mutexes; conditions = q.conditions ∙ sym (length_tie k c m); fits = λ w r. unfold tie at priority in (q.fits w (back w r)) }
  where
    back : (w : Where) → Real (tie k c m) w → Real k w
    back running r = r
    back ready r = r
    back (for_mutex i) r = unfold tie in r
    back (on_condition d) r = rw (length_tie k c m) at r
