-- Sets of queues: a list for each priority, the highest that is not empty, and many sets side by side.
-- Assumes nothing.
use Prim.Native.Nat.{ℕ, zero, suc, ◌+◌, ◌*◌, ◌<◌, ◌≤◌}
use mathlib.Core.Path.{◌≡◌, refl, sym, ap, ap₂, ◌∙◌}
use mathlib.Core.Logic.{◌≢◌, inl, inr, ⊎_elim}
use mathlib.Core.Bool.{Bool, true, false, cond}
use mathlib.Core.List.{List, [], ◌∷◌, ◌++◌, flatten}
use native.Mathlib.Omega.{arith}
use lib.ListN.{length, set, get_or-map}
use lib.Dec.{ltb}
use Rattle.laws.specs.Counting.{at, rest, occupied, count, counts, Wide}
use Rattle.laws.proofs.Bools.{no_way}
use Rattle.laws.proofs.Lists.{by_equal, by_below, count_at, counts_part, map_set, get_or_flatten, flatten_set, below_flatten}
use Rattle.queue.specs.Linking.{back_model, front_model, leave_model, remove_model, level_model, with_level_model, has_first, highest_below, highest_model}
use Rattle.queue.specs.Stands.{Fresh, ends_of, links_of, linked_of, linked_in, queues_of, highest_list, IsHighest}
use Rattle.queue.specs.declared.Queues.{Queues}
use Rattle.queue.proofs.Laws.{back_at, front_at, leave_at, occupied_of}
use Rattle.queue.proofs.Removing.{remove_out, remove_of}

-- ---- one set

-- the queue of a priority is that of its list
pub level_of : (qs : List (List ℕ)) (p : ℕ) → level_model (queues_of qs) p ≡ ends_of (at qs p)
unfolding level_model queues_of ends_of
level_of qs p = get_or-map ends_of qs p []

-- a queue that is stored is a list that is stored
pub with_level_of : (qs : List (List ℕ)) (p : ℕ) (l : List ℕ) → with_level_model (queues_of qs) p (ends_of l) ≡ queues_of (set qs p l)
unfolding with_level_model queues_of
with_level_of qs p l = λ i. record { levels = sym (map_set ends_of qs p l) i }

-- ---- the highest

-- the search goes by the values of its test
highest_same : (f g : ℕ → Bool) → ((p : ℕ) → f p ≡ g p) → (none n : ℕ) → highest_below f none n ≡ highest_below g none n
unfolding highest_below
highest_same f g h none zero = refl
highest_same f g h none (suc n) = ap₂ (λ b m. cond b n m) (h n) (highest_same f g h none n)

-- the search on queues is the search on the lists that they stand for
pub highest_of : (qs : List (List ℕ)) → ((u : ℕ) → 32 ≤ u → counts u qs ≡ 0) → highest_model (queues_of qs) ≡ highest_list qs
unfolding highest_model highest_list has_first
highest_of qs low =
    highest_same (has_first (queues_of qs)) (λ p. occupied (at qs p))
    (λ p. ap (λ q. ltb q.first 32) (level_of qs p) ∙ occupied_of (at qs p) (λ u b. omega (arith, low u b, count_at u qs p))) 16 16

-- what the plain search finds is the highest
pub highest_is : (holds : ℕ → Bool) (none n : ℕ) → IsHighest holds none n (highest_below holds none n)
unfolding highest_below
highest_is holds none zero = inr (refl, λ u h. absurd (omega arith))
highest_is holds none (suc n) = go (holds n) refl (highest_is holds none n)
  where
    above : (u : ℕ) → u < suc n → u ≢ n → u < n
    above u h k = omega arith

    go : (b : Bool) → holds n ≡ b → IsHighest holds none n (highest_below holds none n)
        → IsHighest holds none (suc n) (cond b n (highest_below holds none n))
    go true e ih = inl (omega arith, e, λ u h k. absurd (omega arith))
    go false e ih =
        ⊎_elim
        (λ w. inl (omega (arith, w.0), w.1, λ u h k. by_equal u n (λ p. ap holds p ∙ e) (λ m. w.2 u h (above u k m))))
        (λ w. inr (w.0, λ u k. by_equal u n (λ p. ap holds p ∙ e) (λ m. w.1 u (above u k m)))) ih

-- and nothing else is: whoever finds a highest by another method has found what the search finds
pub highest_unique : (holds : ℕ → Bool) (none n r : ℕ) → IsHighest holds none n r → r ≡ highest_below holds none n
highest_unique holds none n r h = same r (highest_below holds none n) h (highest_is holds none n)
  where
    same : (r q : ℕ) → IsHighest holds none n r → IsHighest holds none n q → r ≡ q
    same r q (inl a) (inl b) =
        by_below r q (λ k. no_way (holds q) b.1 (a.2 q k b.0))
        (λ k. by_below q r (λ m. no_way (holds r) a.1 (b.2 r m a.0)) (λ m. omega arith))
    same r q (inl a) (inr b) = no_way (holds r) a.1 (b.1 r a.0)
    same r q (inr a) (inl b) = no_way (holds q) b.1 (a.1 q b.0)
    same r q (inr a) (inr b) = a.0 ∙ sym b.0

-- so whatever is shown to be the highest is what the code's search finds
pub highest_met : (s : Queues) (r : ℕ) → IsHighest (has_first s) 16 16 r → r ≡ highest_model s
unfolding highest_model
highest_met s r h = highest_unique (has_first s) 16 16 r h

-- ---- many sets of w lists side by side

-- one set of fresh sets is fresh
pub fresh_part : (xss : List (List (List ℕ))) (i : ℕ) → Fresh (flatten xss) → Fresh (at xss i)
fresh_part xss i f =
    record {
      once = λ u. omega (arith, f.once u, counts_part u xss i);
      low = λ u b. omega (arith, f.low u b, counts_part u xss i);
    }

module _ (w : ℕ) (xss : List (List (List ℕ))) (i p : ℕ) (wide : Wide w xss) (inside : i < length xss) (within : p < w)
    (fresh : Fresh (flatten xss)) where
  -- where that list stands in all
  slot : at (flatten xss) (w * i + p) ≡ at (at xss i) p
  slot = get_or_flatten w xss i p [] wide within

  -- within all
  bound : w * i + p < length (flatten xss)
  bound = below_flatten w xss i p wide inside within

  -- a list stored by its slot is stored in its set
  placed : (l : List ℕ) → linked_of (flatten xss) (w * i + p) l ≡ linked_in xss i p l
  placed l = ap (λ x. record { links = links_of x; queue = ends_of l }) (sym (flatten_set w xss i p l wide within))

  module _ (t : ℕ) (small : t < 32) (out : counts t (flatten xss) ≡ 0) where
    -- an arrival at the back changes the list of priority p of set i so, and no other
    pub back_in : back_model (links_of (flatten xss)) (ends_of (at (at xss i) p)) t ≡ linked_in xss i p (at (at xss i) p ++ (t ∷ []))
    back_in = back_at (flatten xss) (w * i + p) (at (at xss i) p) slot fresh bound t small out ∙ placed (at (at xss i) p ++ (t ∷ []))

    -- an arrival at the front
    pub front_in : front_model (links_of (flatten xss)) (ends_of (at (at xss i) p)) t ≡ linked_in xss i p (t ∷ at (at xss i) p)
    front_in = front_at (flatten xss) (w * i + p) (at (at xss i) p) slot fresh bound t small out ∙ placed (t ∷ at (at xss i) p)

  -- a leave takes the first from that list, and no other list changes
  pub leave_in : leave_model (links_of (flatten xss)) (ends_of (at (at xss i) p)) ≡ linked_in xss i p (rest (at (at xss i) p))
  leave_in = leave_at (flatten xss) (w * i + p) (at (at xss i) p) slot fresh bound ∙ placed (rest (at (at xss i) p))

  -- t leaves that list from wherever it stands there, and no other list changes
  pub remove_in : (t : ℕ) (a b : List ℕ) → at (at xss i) p ≡ a ++ (t ∷ b) → remove_model (links_of (flatten xss)) (ends_of (at (at xss i) p)) t ≡ linked_in xss i p (a ++ b)
  remove_in t a b here =
      ap (λ l. remove_model (links_of (flatten xss)) (ends_of l) t) (sym slot)
      ∙ remove_of (flatten xss) (w * i + p) fresh bound t a b (slot ∙ here) ∙ placed (a ++ b)

  -- where it does not stand there, none does
  pub remove_none_in : (t : ℕ) → count t (at (at xss i) p) ≡ 0 → remove_model (links_of (flatten xss)) (ends_of (at (at xss i) p)) t ≡ linked_in xss i p (at (at xss i) p)
  remove_none_in t out = remove_out (flatten xss) (w * i + p) fresh t (at (at xss i) p) slot out ∙ placed (at (at xss i) p)
