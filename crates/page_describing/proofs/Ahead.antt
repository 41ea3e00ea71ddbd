-- One turn of the count of those ahead of a thread along the links, and its ends.
-- Assumes nothing.
use Prim.Native.Nat.{ℕ, suc, ◌+◌, ◌-◌, ◌%◌, ◌<◌, ◌≤◌}
use mathlib.Core.Path.{◌≡◌, sym, ap, ◌∙◌}
use mathlib.Core.List.{List, [], ◌∷◌}
use native.Mathlib.Omega.{arith}
use lib.ListN.{get_or}
use borrow.Author.Tests.{eq-eqb, ne_eqb}
use Rattle.queue.specs.Linking.{walk}
use Rattle.queue.proofs.Searches.{walk_none, walk_zero, walk_more}
use Rattle.rules.specs.Page.{ahead}
use Rattle.place_tables.specs.Cells.{scheduler_in}

-- the links that stand in an array
abbrev pub next_in : List ℕ → List ℕ
next_in k = (scheduler_in k).threads.links.next

-- so many are counted, and those ahead on the rest of the walk are missing from the whole
abbrev pub Counting : List ℕ → ℕ → ℕ → ℕ → ℕ → Type 0
Counting next t whole count here = (count ≤ 32) × (count + ahead t (walk next (32 - count) here) ≡ whole)

module _ (next : List ℕ) (t whole count here : ℕ) (c : Counting next t whole count here) where
  -- no one follows on the walk
  ends : walk next (32 - count) here ≡ [] → count ≡ whole
  unfolding ahead
  ends e = let h : count + ahead t (walk next (32 - count) here) ≡ count = rw e (omega arith) in sym h ∙ c.1

  -- the walk goes on
  goes : count < 32 → here < 32 → walk next (32 - count) here ≡ here ∷ walk next (32 - (count + 1)) (get_or next here 0)
  goes h k =
      let e : 32 - count ≡ suc (32 - (count + 1)) = omega arith in
      ap (λ n. walk next n here) e ∙ walk_more next (32 - (count + 1)) here k

  -- the queue ends without the thread
  pub count_ends : 32 ≤ here → count ≡ whole
  count_ends h = ends (walk_none next (32 - count) here h)

  -- so many steps are taken
  pub count_full : 32 ≤ count → count ≡ whole
  count_full h =
      let e : 32 - count ≡ 0 = omega arith in
      ends (ap (λ n. walk next n here) e ∙ walk_zero next here)

  -- the thread is met
  pub count_met : count < 32 → here < 32 → t ≡ here → count ≡ whole
  unfolding ahead
  count_met h k e =
      let z : count + ahead t (walk next (32 - count) here) ≡ count = rw (goes h k, eq-eqb t here e) (omega arith) in
      sym z ∙ c.1

  -- another is met, and h follows it
  pub count_more : (h : ℕ) → count < 32 → here < 32 → (t ≡ here → ⊥) → h ≡ get_or next (here % 32) 0 → Counting next t whole (count + 1) h
  unfolding ahead
  count_more h few low n follows =
      let in_table : here % 32 ≡ here = omega (arith, low) in
      let is : h ≡ get_or next here 0 = follows ∙ ap (λ i. get_or next i 0) in_table in
      let z : count + ahead t (walk next (32 - count) here) ≡ count + 1 + ahead t (walk next (32 - (count + 1)) (get_or next here 0)) =
      rw (goes few low, ne_eqb t here n) (omega arith) in
      (omega arith, ap (λ i. count + 1 + ahead t (walk next (32 - (count + 1)) i)) is ∙ sym z ∙ c.1)
