-- A thread leaves its queue from anywhere: who is in a queue without it, that the others keep their order, that a set of queues fits after it, and that
-- the queues of a scheduler are kept.
-- Assumes nothing.
use Prim.Native.Nat.{ℕ}
use mathlib.Core.Path.{◌≡◌, refl, sym, ap, ◌∙◌, subst}
use mathlib.Core.Bool.{Bool, true, false, not, ◌&&◌}
use mathlib.Core.List.{List, [], ◌∷◌}
use lib.ListN.{length-map, get_or-map}
use lib.Dec.{eqb}
use borrow.Author.Tests.{eqb-true}
use Rattle.laws.proofs.Bools.{by_cases, and-true, and_false, and_left}
use Rattle.rules.specs.Queues.{QueueSet, queue}
use Rattle.rules.specs.Leaving.{without, thread_leaves}
use Rattle.rules.specs.State.{Where, running, Rows, Sets, at, stand, set_at, put_set}
use Rattle.rules.specs.Sound.{mem}
use Rattle.rules_soundness.proofs.Fits.{Ordered, Fits}
use Rattle.rules_soundness.proofs.Rows.{Real}
use Rattle.rules_soundness.proofs.Facts.{Queued}
use Rattle.rules_soundness.proofs.Moves.{left, queued_gone}

-- ---- one queue

-- the members are the others
pub mem_without : (u t : ℕ) (q : List ℕ) → mem u (without t q) ≡ (mem u q && not (eqb u t))
unfolding mem without
mem_without u t [] = refl
mem_without u t (x ∷ q) = by_cases (eqb x t)
    (λ e. rw (e, mem_without u t q, eqb-true x t e) (by_cases (eqb u t) (λ y. rw (y, and_false (mem u q))) (λ y. rw y)))
    (λ e. rw (e, mem_without u t q) (by_cases (eqb u x) (λ y. rw (y, eqb-true u x y, e)) (λ y. rw y)))

-- in their order
pub ordered_without : (ahead : ℕ → ℕ → Type 0) (t : ℕ) (q : List ℕ) → Ordered ahead q → Ordered ahead (without t q)
unfolding without
ordered_without ahead t [] o = tt
ordered_without ahead t (x ∷ q) o = by_cases (eqb x t)
    (λ e. rw e (ordered_without ahead t q o.1))
    (λ e. rw e (λ u m. o.0 u (and_left (mem u q) (not (eqb u t)) (sym (mem_without u t q) ∙ m)), ordered_without ahead t q o.1))

-- ---- a set of queues

-- each queue is the one without t
pub queue_without : (qs : QueueSet) (t p : ℕ) → queue (thread_leaves qs t) p ≡ without t (queue qs p)
unfolding thread_leaves without
queue_without qs t p = get_or-map (without t) qs p []

module _ {at : ℕ → Bool} {prio : ℕ → ℕ} {ahead : ℕ → ℕ → Type 0} {qs : QueueSet} (f : Fits at prio ahead qs) where
  -- t leaves whichever queue it stands in
  pub fits_without : {at' : ℕ → Bool} (t : ℕ) → ((u : ℕ) → at' u ≡ (at u && not (eqb u t))) → Fits at' prio ahead (thread_leaves qs t)
  fits_without {at'} t leaves = record {
    size = unfold thread_leaves in (length-map qs (without t) ∙ f.size);
    who = λ p u l. ap (mem u) (queue_without qs t p) ∙ mem_without u t (queue qs p) ∙ rw (f.who p u l, leaves u) (swap (at u) (eqb (prio u) p) (not (eqb u t)));
    order = λ p l. subst (Ordered ahead) (sym (queue_without qs t p)) (ordered_without ahead t (queue qs p) (f.order p l));
    low = λ u e. f.low u (and_left (at u) (not (eqb u t)) (sym (leaves u) ∙ e));
  }
    where
      swap : (a b c : Bool) → ((a && b) && c) ≡ ((a && c) && b)
      swap true true c = sym (and-true c)
      swap true false c = sym (and_false c)
      swap false b c = refl

-- ---- the queues of a scheduler

-- t leaves its queue and stands nowhere
pub queued_without : {k : Rows} {s : Sets} → Queued k s → (w : Where) → Real k w → (t : ℕ) → at k w t ≡ true → Queued (stand k t running) (put_set s w (thread_leaves (set_at s w) t))
queued_without {k} {s} q w r t stood = queued_gone q w r t stood (thread_leaves (set_at s w) t) (fits_without (q.fits w r) {at' = at (stand k t running) w} t (left q w r t stood w r))
