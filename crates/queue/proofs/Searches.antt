-- One turn of the search from above, of the walk along the links, and of the way to the thread that another follows.
-- Assumes nothing.
use Prim.Native.Nat.{ℕ, zero, suc, ◌+◌, ◌-◌, ◌≤◌, ◌<◌}
use mathlib.Core.Path.{◌≡◌, refl, sym, ap, ◌∙◌}
use mathlib.Core.Logic.{◌≢◌}
use mathlib.Core.Bool.{Bool, true, false, cond}
use mathlib.Core.List.{List, [], ◌∷◌}
use native.Mathlib.Omega.{arith}
use lib.ListN.{length, get_or}
use lib.Dec.{eqb, ltb}
use borrow.Author.Tests.{lt-ltb, le-ltb, eq-eqb, ne_eqb}
use Rattle.laws.proofs.Lists.{get_d_any}
use Rattle.queue.specs.Linking.{ahead_model, walk, highest_below, empty_queue, level_model, has_first}
use Rattle.queue.specs.declared.Queue.{Queue}
use Rattle.queue.specs.declared.Queues.{Queues}

-- ---- the search

-- the search below 0 finds none
pub search_none : (holds : ℕ → Bool) (none : ℕ) → highest_below holds none 0 ≡ none
unfolding highest_below
search_none holds none = refl

-- the search below p + 1 ends at p where the test holds
pub search_found : (holds : ℕ → Bool) (none n p : ℕ) → n ≡ suc p → holds p ≡ true → highest_below holds none n ≡ p
unfolding highest_below
search_found holds none n p e h = rw e (rw h)

-- and else is the search below p
pub search_passed : (holds : ℕ → Bool) (none n p : ℕ) → n ≡ suc p → holds p ≡ false → highest_below holds none n ≡ highest_below holds none p
unfolding highest_below
search_passed holds none n p e h = rw e (rw h)

-- the code's test of a queue is the definition's
pub test_at : (s : Queues) (p : ℕ) (d : Queue) → length s.levels ≡ 16 → p < 16 → has_first s p ≡ ltb (get_or s.levels p d).first 32
unfolding has_first level_model
test_at s p d e h = ap (λ (q : Queue). ltb q.first 32) (get_d_any s.levels p empty_queue d (omega arith))

-- ---- the walk

-- the walk ends where there is no thread
pub walk_none : (next : List ℕ) (n t : ℕ) → 32 ≤ t → walk next n t ≡ []
unfolding walk
walk_none next zero t h = refl
walk_none next (suc n) t h = rw (le-ltb t 32 h)

-- and where no step is left
pub walk_zero : (next : List ℕ) (t : ℕ) → walk next 0 t ≡ []
unfolding walk
walk_zero next t = refl

-- a thread is met, and the walk goes on from its link
pub walk_more : (next : List ℕ) (n t : ℕ) → t < 32 → walk next (suc n) t ≡ t ∷ walk next n (get_or next t 0)
unfolding walk
walk_more next n t h = rw (lt-ltb t 32 h)

-- ---- the way to the thread that t follows

-- the way ends where there is no thread
pub ahead_none : (next : List ℕ) (t n p : ℕ) → 32 ≤ p → ahead_model next n p t ≡ 255
unfolding ahead_model
ahead_none next t zero p h = refl
ahead_none next t (suc n) p h = rw (le-ltb p 32 h)

-- a thread is met: t follows it, or the way goes on from its link
pub ahead_more : (next : List ℕ) (t n p : ℕ) → p < 32
    → ahead_model next (suc n) p t ≡ cond (eqb (get_or next p 0) t) p (ahead_model next n (get_or next p 0) t)
unfolding ahead_model
ahead_more next t n p h = rw (lt-ltb p 32 h)

module _ (next : List ℕ) (start t : ℕ) where
  -- the way from the thread met, along the links that are left, gives what the whole way gives
  abbrev pub OnWay : ℕ → ℕ → Type 0
  OnWay met passed = (passed ≤ 32) × (ahead_model next 32 start t ≡ ahead_model next (32 - passed) met t)

  -- the whole way is left
  pub way_begins : OnWay start 0
  way_begins = (omega arith, refl)

  module _ (met passed : ℕ) (on : OnWay met passed) where
    -- there is no thread
    pub way_ends : 32 ≤ met → 255 ≡ ahead_model next 32 start t
    way_ends h = sym (on.1 ∙ ahead_none next t (32 - passed) met h)

    -- no link is left
    pub way_spent : 32 ≤ passed → 255 ≡ ahead_model next 32 start t
    unfolding ahead_model
    way_spent h =
        let z : 32 - passed ≡ 0 = omega arith in
        sym (on.1 ∙ ap (λ n. ahead_model next n met t) z)

    module _ (more : passed < 32) (small : met < 32) (after : ℕ) (read : after ≡ get_or next met 0) where
      -- one turn, by the link of the thread met
      turned : ahead_model next 32 start t ≡ cond (eqb after t) met (ahead_model next (32 - (passed + 1)) after t)
      turned =
          let e : 32 - passed ≡ suc (32 - (passed + 1)) = omega arith in
          on.1 ∙ ap (λ n. ahead_model next n met t) e ∙ ahead_more next t (32 - (passed + 1)) met small
          ∙ ap (λ u. cond (eqb u t) met (ahead_model next (32 - (passed + 1)) u t)) (sym read)

      -- t follows the thread met
      pub way_found : after ≡ t → met ≡ ahead_model next 32 start t
      way_found k = sym (turned ∙ rw (eq-eqb after t k))

      -- and else the way goes on from its link
      pub way_on : after ≢ t → OnWay after (passed + 1)
      way_on k = (omega arith, turned ∙ rw (ne_eqb after t k))
