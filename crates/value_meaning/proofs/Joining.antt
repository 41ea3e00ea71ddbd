-- Joining a set of queues and leaving it, in links and ends, is joining and leaving in the definition's queues.
-- Assumes nothing.
use Prim.Native.Nat.{ℕ, zero, suc, ◌<◌, ◌≤◌}
use mathlib.Core.Path.{◌≡◌, refl, sym, ap, ◌∙◌, subst}
use mathlib.Core.Bool.{cond}
use mathlib.Core.List.{List, [], ◌∷◌, ◌++◌, tail, flatten}
use native.Mathlib.Omega.{arith}
use lib.ListN.{length, set, get_or-eq_default}
use Rattle.laws.specs.Counting.{at, first_or, rest, occupied, counts}
use Rattle.queue.specs.declared.Linked.{Linked}
use Rattle.queue.specs.Linking.{back_model, front_model, leave_model, level_model, with_level_model, highest_model, highest_below}
use Rattle.queue.specs.Stands.{ends_of, links_of, linked_in, queues_of, highest_list}
use Rattle.queue.proofs.Sets.{level_of, with_level_of, highest_of, fresh_part, back_in, front_in, leave_in}
use Rattle.value_tables.specs.declared.Joined.{Joined}
use Rattle.value_tables.specs.declared.Head.{Head}
use Rattle.value_tables.specs.Tables.{join_model, join_front_model, depart_model, head_model}
use Rattle.rules.specs.Queues as rules
use Rattle.rules.specs.Queues.{QueueSet, queue, to_back, to_front, first_leaves, First, nobody, somebody, first_below, first}
use Rattle.rules.specs.State.{Where, running, Rows, Sets, thread, set_at, put_set}
use Rattle.rules_soundness.proofs.Rows.{Real}
use Rattle.rules_soundness.proofs.Facts.{Queued}
use Rattle.value_meaning.specs.Stands.{all_sets}
use Rattle.value_meaning.proofs.Sides.{side, side_set, side_below, side_put}
use Rattle.value_meaning.proofs.Fresh.{wide, fresh, absent, has_set}

-- the links and the set once the queues q stand at w
abbrev pub standing : Sets → Where → QueueSet → Joined
standing s w q = record { links = links_of (flatten (all_sets (put_set s w q))); set = queues_of q }

rest_tail : (l : List ℕ) → rest l ≡ tail l
rest_tail [] = refl
rest_tail (x ∷ l) = refl

module _ {k : Rows} {s : Sets} (q : Queued k s) (few : length k.threads ≤ 32) (w : Where) (r : Real k w) (p : ℕ) (low : p < 16) where
  -- its set among all
  pub here : at (all_sets s) (side s w) ≡ set_at s w
  here = side_set s w (has_set q w r)

  -- one list is put at the place
  put_there : (l : List ℕ) → linked_in (all_sets s) (side s w) p l ≡ record { links = links_of (flatten (all_sets (put_set s w (set (set_at s w) p l)))); queue = ends_of l }
  put_there l = ap (λ z. record { links = links_of (flatten z); queue = ends_of l }) (ap (λ y. set (all_sets s) (side s w) (set y p l)) here ∙ sym (side_put s w (set (set_at s w) p l) (has_set q w r)))

  -- what an operation on one queue makes of the set
  pub carried : (m : Linked) (l : List ℕ) → m ≡ linked_in (all_sets s) (side s w) p l → record { links = m.links; set = with_level_model (queues_of (set_at s w)) p m.queue } ≡ standing s w (set (set_at s w) p l)
  carried m l e =
      ap (λ (z : Linked). record { links = z.links; set = with_level_model (queues_of (set_at s w)) p z.queue }) (e ∙ put_there l)
      ∙ ap (λ x. record { links = links_of (flatten (all_sets (put_set s w (set (set_at s w) p l)))); set = x }) (with_level_of (set_at s w) p l)

  -- the queue of priority p
  pub level : level_model (queues_of (set_at s w)) p ≡ ends_of (at (at (all_sets s) (side s w)) p)
  level = level_of (set_at s w) p ∙ ap (λ x. ends_of (at x p)) (sym here)

  module _ (t : ℕ) (small : t < 32) (nowhere : (thread k t).stands ≡ running) where
    pub join_stands : join_model (links_of (flatten (all_sets s))) (queues_of (set_at s w)) p t ≡ standing s w (to_back (set_at s w) p t)
    unfolding join_model to_back
    join_stands = carried (back_model (links_of (flatten (all_sets s))) (level_model (queues_of (set_at s w)) p) t) (queue (set_at s w) p ++ (t ∷ []))
        (ap (λ x. back_model (links_of (flatten (all_sets s))) x t) level ∙ back_in 16 (all_sets s) (side s w) p (wide q) (side_below s w (has_set q w r)) low (fresh q few) t small (absent q t nowhere)
        ∙ ap (λ x. linked_in (all_sets s) (side s w) p (at x p ++ (t ∷ []))) here)

    pub join_front_stands : join_front_model (links_of (flatten (all_sets s))) (queues_of (set_at s w)) p t ≡ standing s w (to_front (set_at s w) p t)
    unfolding join_front_model to_front
    join_front_stands = carried (front_model (links_of (flatten (all_sets s))) (level_model (queues_of (set_at s w)) p) t) (t ∷ queue (set_at s w) p)
        (ap (λ x. front_model (links_of (flatten (all_sets s))) x t) level ∙ front_in 16 (all_sets s) (side s w) p (wide q) (side_below s w (has_set q w r)) low (fresh q few) t small (absent q t nowhere)
        ∙ ap (λ x. linked_in (all_sets s) (side s w) p (t ∷ at x p)) here)

  pub part_stands : depart_model (links_of (flatten (all_sets s))) (queues_of (set_at s w)) p ≡ standing s w (first_leaves (set_at s w) p)
  unfolding depart_model first_leaves
  part_stands = carried (leave_model (links_of (flatten (all_sets s))) (level_model (queues_of (set_at s w)) p)) (tail (queue (set_at s w) p))
      (ap (leave_model (links_of (flatten (all_sets s)))) level ∙ leave_in 16 (all_sets s) (side s w) p (wide q) (side_below s w (has_set q w r)) low (fresh q few)
      ∙ ap (λ x. linked_in (all_sets s) (side s w) p (rest (at x p))) here ∙ ap (linked_in (all_sets s) (side s w) p) (rest_tail (queue (set_at s w) p)))

-- ---- the first of the highest queue

-- who is first, as the code has it
abbrev pub head_of : First → Head
head_of nobody = record { priority = 16; thread = 255 }
head_of (somebody p t) = record { priority = p; thread = t }

-- the search finds the priority of the first
found : (n : ℕ) (qs : QueueSet) → (head_of (first_below n qs)).priority ≡ highest_below (λ p. occupied (at qs p)) 16 n
unfolding first_below highest_below
found zero qs = refl
found (suc n) qs = go (queue qs n) refl (found n qs)
  where
    go : (l : List ℕ) → queue qs n ≡ l → (head_of (first_below n qs)).priority ≡ highest_below (λ p. occupied (at qs p)) 16 n
        → (head_of (rules.first_or l n (first_below n qs))).priority ≡ cond (occupied l) n (highest_below (λ p. occupied (at qs p)) 16 n)
    go [] e h = h
    go (x ∷ l) e h = refl

-- the first is the first of its queue
its_first : (n : ℕ) (qs : QueueSet) → length qs ≤ 16 → (head_of (first_below n qs)).thread ≡ first_or 255 (at qs (head_of (first_below n qs)).priority)
unfolding first_below
its_first zero qs h = ap (first_or 255) (sym (get_or-eq_default qs [] {n = 16} h))
its_first (suc n) qs h = go (queue qs n) refl (its_first n qs h)
  where
    go : (l : List ℕ) → queue qs n ≡ l → (head_of (first_below n qs)).thread ≡ first_or 255 (at qs (head_of (first_below n qs)).priority)
        → (head_of (rules.first_or l n (first_below n qs))).thread ≡ first_or 255 (at qs (head_of (rules.first_or l n (first_below n qs))).priority)
    go [] e i = i
    go (x ∷ l) e i = ap (first_or 255) (sym e)

first_end : (l : List ℕ) → (ends_of l).first ≡ first_or 255 l
unfolding ends_of
first_end l = refl

pub head_stands : {k : Rows} {s : Sets} → Queued k s → length k.threads ≤ 32 → (w : Where) → Real k w → head_model (queues_of (set_at s w)) ≡ head_of (first (set_at s w))
unfolding head_model highest_list
head_stands {k} {s} q few w r = λ i. record { priority = same i; thread = (ap (λ x. (level_model (queues_of (set_at s w)) x).first) same ∙ its) i }
  where
    low : (u : ℕ) → 32 ≤ u → counts u (set_at s w) ≡ 0
    low u h = subst (λ x. counts u x ≡ 0) (side_set s w (has_set q w r)) ((fresh_part (all_sets s) (side s w) (fresh q few)).low u h)

    same : highest_model (queues_of (set_at s w)) ≡ (head_of (first (set_at s w))).priority
    same = highest_of (set_at s w) low ∙ sym (found 16 (set_at s w))

    its : (level_model (queues_of (set_at s w)) (head_of (first (set_at s w))).priority).first ≡ (head_of (first (set_at s w))).thread
    its = ap (λ x. x.first) (level_of (set_at s w) (head_of (first (set_at s w))).priority) ∙ first_end (at (set_at s w) (head_of (first (set_at s w))).priority) ∙ sym (its_first 16 (set_at s w) (omega (arith, (q.fits w r).size)))
