-- What a visit of the timers on a spoke comes to: each of them has a turn less, and those with none left are stopped and due.
-- The tables are given by functions of the id: who hangs there, the turns, the spokes.
-- Assumes nothing.
use Prim.Native.Nat.{ℕ, zero, suc, ◌+◌, ◌-◌, ◌<◌, ◌≤◌}
use mathlib.Core.Path.{◌≡◌, refl, sym, ◌∙◌}
use mathlib.Core.Bool.{Bool, true, false, cond, ◌&&◌}
use mathlib.Core.List.{List, [], ◌∷◌, ◌++◌}
use native.Mathlib.Omega.{arith}
use lib.ListN.{length, length-append, get_or, set}
use lib.Dec.{eqb, ltb}
use lib.Bits.{bit_or}
use borrow.Author.Tests.{eq-eqb, ne_eqb, eqb-true, eqb-false, lt-ltb, le-ltb, lt-leb, ltb-true, ltb-false}
use Rattle.laws.specs.Lists.{tabulate, among, put}
use Rattle.laws.specs.Bits.{word_of}
use Rattle.laws.proofs.Bools.{by_cases, or_false, or_right}
use Rattle.laws.proofs.Lists.{length_tabulate, get_d_tabulate, set_tabulate_below, tabulate_below}
use Rattle.laws.proofs.Bits.{word_same, word_none, word_one, or_words, among_next}
use Rattle.wheel.specs.declared.Ticked.{Ticked}
use Rattle.wheel.specs.Inside.{Tables, laid, bit_of, midst, visit, visited}
use Rattle.wheel.proofs.Words.{Sized, turns_at_lem, turns_put, spoke_put}

-- the bit of an id that is one of the 32 is a word of that id alone
pub bit_word : (i : ℕ) → i < 32 → bit_of i ≡ word_of 32 (λ j. eqb j i)
unfolding bit_of
bit_word i h = rw (lt-leb 32 i h) (sym (word_one 32 i h))

-- one list after the other
pub visited_append : (a b : List ℕ) (t : Ticked) → visited (a ++ b) t ≡ visited b (visited a t)
unfolding visited
visited_append [] b t = refl
visited_append (i ∷ a) b t = visited_append a b (visit t i)

-- what is below k + 1 and is not k is below k
below_other : (j k : ℕ) → (j ≡ k → ⊥) → ltb j k ≡ ltb j (suc k)
below_other j k n =
    by_cases (ltb j k)
    (λ e. e ∙ sym (lt-ltb j (suc k) (omega (arith, ltb-true j k e))))
    (λ e. e ∙ sym (le-ltb j (suc k) (omega (arith, ltb-false j k e))))

-- k itself is not below k, and is below k + 1
below_self : (k : ℕ) → ltb k k ≡ false
below_self k = le-ltb k k (omega arith)

below_next : (k : ℕ) → ltb k (suc k) ≡ true
below_next k = lt-ltb k (suc k) (omega arith)

-- what turns on whether an id is below k, when k grows by one: nothing changes at another id, nor anywhere if nothing does at k
module _ {A : Type 0} (F : Bool → ℕ → A) (k : ℕ) where
  elsewhere : (j : ℕ) → (j ≡ k → ⊥) → F (ltb j k) j ≡ F (ltb j (suc k)) j
  elsewhere j n = rw (below_other j k n)

  nowhere : F false k ≡ F true k → (j : ℕ) → F (ltb j k) j ≡ F (ltb j (suc k)) j
  nowhere e j = by_cases (eqb j k)
      (λ h. rw (eqb-true j k h, below_self k, below_next k) e)
      (λ h. elsewhere j (eqb-false j k h))

  pub unchanged : F false k ≡ F true k → tabulate 32 (λ i. F (ltb i k) i) ≡ tabulate 32 (λ i. F (ltb i (suc k)) i)
  unchanged e = tabulate_below 32 _ _ (λ j h. nowhere e j)

  pub changed : k < 32 → (v : A) → v ≡ F true k → set (tabulate 32 (λ i. F (ltb i k) i)) k v ≡ tabulate 32 (λ i. F (ltb i (suc k)) i)
  changed h v e =
      set_tabulate_below 32 (λ i. F (ltb i k) i) (λ i. F (ltb i (suc k)) i) k v h (rw (below_next k) e) (λ j l n. elsewhere j n)

  pub at_k : (d : A) → k < 32 → get_or (tabulate 32 (λ i. F (ltb i k) i)) k d ≡ F false k
  at_k d h = get_d_tabulate 32 (λ i. F (ltb i k) i) k d h ∙ rw (below_self k)

module _ (F : Bool → ℕ → Bool) (k : ℕ) where
  word_unchanged : F false k ≡ F true k → word_of 32 (λ i. F (ltb i k) i) ≡ word_of 32 (λ i. F (ltb i (suc k)) i)
  word_unchanged e = word_same 32 _ _ (λ j h. nowhere F k e j)

  word_changed : k < 32 → F true k ≡ true → bit_or (word_of 32 (λ i. F (ltb i k) i)) (bit_of k) ≡ word_of 32 (λ i. F (ltb i (suc k)) i)
  word_changed h e =
      rw (bit_word k h, or_words 32 (λ i. F (ltb i k) i) (λ i. eqb i k))
      (word_same 32 _ _ (λ j l. by_cases (eqb j k)
      (λ y. rw (eqb-true j k y, below_next k, eq-eqb k k refl, e) (or_right (F (ltb k k) k) true refl))
      (λ n. rw n (or_false (F (ltb j k) j) ∙ elsewhere F k j (eqb-false j k n)))))

-- a timer that is on the spoke, and seen, loses a turn
abbrev pub turn : (ℕ → Bool) → (ℕ → ℕ) → Bool → ℕ → ℕ
turn q T seen i = cond (seen && q i) (T i - 1) (T i)

-- or is at its end
abbrev pub at_end : (ℕ → Bool) → (ℕ → ℕ) → Bool → ℕ → Bool
at_end q T seen i = seen && (q i && eqb (T i) 0)

-- and is then stopped
abbrev pub home : (ℕ → Bool) → (ℕ → ℕ) → (ℕ → ℕ) → Bool → ℕ → ℕ
home q T S seen i = cond (at_end q T seen i) 255 (S i)

module _ (spokes : List ℕ) (position : ℕ) (q : ℕ → Bool) (T S : ℕ → ℕ) where
  -- the tables after the visits of the timers below k
  abbrev pub tables_after : ℕ → Tables
  tables_after k =
      record {
        spokes = spokes;
        turns = tabulate 32 (λ i. turn q T (ltb i k) i);
        spoke = tabulate 32 (λ i. home q T S (ltb i k) i);
        position = position;
      }

  -- with them, who came due and how many were visited
  unfoldable pub After : ℕ → Ticked
  After k = midst (laid (tables_after k)) (word_of 32 (λ i. at_end q T (ltb i k) i)) (length (among k q))

  -- before any visit
  pub begun : After 0 ≡ midst (laid (record { spokes = spokes; turns = tabulate 32 T; spoke = tabulate 32 S; position = position })) 0 0
  unfolding After among
  begun =
      let z : (i : ℕ) → ltb i 0 ≡ false = λ i. le-ltb i 0 (omega arith) in
      rw (
        tabulate_below 32 (λ i. turn q T (ltb i 0) i) T (λ i l. rw (z i)),
        tabulate_below 32 (λ i. home q T S (ltb i 0) i) S (λ i l. rw (z i)),
        word_none 32 (λ i. at_end q T (ltb i 0) i) (λ i l. rw (z i)),
      )

  length_one : (k : ℕ) → q k ≡ true → length (among k q) + 1 ≡ length (among (suc k) q)
  length_one k e = rw (among_next k q, length-append (among k q) (put (q k) k), e)

  length_none : (k : ℕ) → q k ≡ false → length (among k q) ≡ length (among (suc k) q)
  length_none k e = rw (among_next k q, length-append (among k q) (put (q k) k), e) (omega arith)

  -- a timer that is not on the spoke is not visited
  passed : (k : ℕ) → q k ≡ false → After k ≡ After (suc k)
  unfolding After
  passed k e =
      rw (
        unchanged (turn q T) k (rw e),
        unchanged (home q T S) k (rw e),
        word_unchanged (at_end q T) k (rw e),
        length_none k e,
      )

  module _ (many : length spokes ≡ 64) where
    -- the tables are as long as tables are
    pub sized_after : (k : ℕ) → Sized (tables_after k)
    sized_after k = record { spokes = many; turns = length_tabulate 32 _; spoke = length_tabulate 32 _ }

    -- one with no turn left is stopped, and due
    ended : (k : ℕ) → k < 32 → q k ≡ true → T k ≡ 0 → visit (After k) k ≡ After (suc k)
    unfolding After visit
    ended k h e z =
        let a : eqb (T k) 0 ≡ true = eq-eqb _ _ z in
        rw (
          turns_at_lem (tables_after k) (sized_after k) k h,
          at_k (turn q T) k 0 h,
          a,
          spoke_put (tables_after k) (sized_after k) k 255 h,
          unchanged (turn q T) k (rw e (omega arith)),
          changed (home q T S) k h 255 (rw (e, a)),
          word_changed (at_end q T) k h (rw (e, a)),
          length_one k e,
        )

    -- one with a turn left has one less
    turned : (k : ℕ) → k < 32 → q k ≡ true → (T k ≡ 0 → ⊥) → visit (After k) k ≡ After (suc k)
    unfolding After visit
    turned k h e z =
        let a : eqb (T k) 0 ≡ false = ne_eqb _ _ z in
        rw (
          turns_at_lem (tables_after k) (sized_after k) k h,
          at_k (turn q T) k 0 h,
          a,
          turns_put (tables_after k) (sized_after k) k (T k - 1) h,
          changed (turn q T) k h (T k - 1) (rw e),
          unchanged (home q T S) k (rw (e, a)),
          word_unchanged (at_end q T) k (rw (e, a)),
          length_one k e,
        )

    -- a timer on the spoke visited
    seen : (k : ℕ) → k < 32 → q k ≡ true → visit (After k) k ≡ After (suc k)
    seen k h e =
        by_cases (eqb (T k) 0) (λ z. ended k h e (eqb-true _ _ z)) (λ z. turned k h e (eqb-false _ _ z))

    -- the timers of the spoke below k visited, in order of id
    pub visited_below : (k : ℕ) → k ≤ 32 → visited (among k q) (After 0) ≡ After k
    unfolding among visited
    visited_below zero h = refl
    visited_below (suc k) h =
        rw (among_next k q, visited_append (among k q) (put (q k) k) (After 0), visited_below k (omega arith))
        (by_cases (q k) (λ e. rw e (seen k h e)) (λ e. rw e (passed k e)))
