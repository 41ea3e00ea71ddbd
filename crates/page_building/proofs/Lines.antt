-- Who has come, and the queues so far, once those of the places below i and the threads below t of place i have arrived.
-- Assumes nothing.
use Prim.Native.Nat.{ℕ, zero, suc, ◌<◌}
use mathlib.Core.Path.{◌≡◌, refl, sym, ap, ◌∙◌}
use mathlib.Core.Logic.{◌≢◌}
use mathlib.Core.Bool.{Bool, true, false, ◌||◌, ◌&&◌}
use mathlib.Core.List.{List, [], ◌++◌, flatten, append_assoc, append-nil}
use native.Mathlib.Omega.{arith}
use lib.Dec.{eqb, ltb}
use borrow.Author.Tests.{eqb-true, ne_eqb, eq-eqb, lt-ltb, le-ltb}
use Rattle.laws.specs.Lists.{tabulate, put, among}
use Rattle.laws.proofs.Bools.{or_right, and_false}
use Rattle.laws.proofs.Lists.{by_equal, by_below}
use Rattle.laws.proofs.Bits.{among_next}

-- ---- who has come

module _ (place : ℕ → ℕ) where
  -- u has come
  unfoldable pub came : ℕ → ℕ → ℕ → Bool
  came i t u = ltb (place u) i || (eqb (place u) i && ltb u t)

  -- nobody at first
  pub came_none : (u : ℕ) → came 0 0 u ≡ false
  unfolding came
  came_none u = rw (le-ltb (place u) 0 (omega arith), le-ltb u 0 (omega arith), and_false (eqb (place u) 0))

  -- with thread t the others are as they were
  pub came_others : (i t u : ℕ) → u ≢ t → came i t u ≡ came i (suc t) u
  unfolding came
  came_others i t u n = by_below u t
      (λ l. rw (lt-ltb u t l, lt-ltb u (suc t) (omega arith)))
      (λ l. rw (le-ltb u t l, le-ltb u (suc t) (omega (arith, n))))

  -- thread t has come if its place is i
  pub came_itself : (i t : ℕ) → eqb (place t) i ≡ true → came i (suc t) t ≡ true
  unfolding came
  came_itself i t e = rw (e, lt-ltb t (suc t) (omega arith)) (or_right (ltb (place t) i) true refl)

  -- and had not come before
  pub came_not_yet : (i t : ℕ) → eqb (place t) i ≡ true → came i t t ≡ false
  unfolding came
  came_not_yet i t e = rw (e, le-ltb t t (omega arith), le-ltb (place t) i (omega (arith, eqb-true (place t) i e)))

  -- of another place nobody comes
  pub came_aside : (i t u : ℕ) → eqb (place t) i ≡ false → came i t u ≡ came i (suc t) u
  unfolding came
  came_aside i t u e = by_equal u t (λ q. rw (q, e)) (λ q. unfold came in (came_others i t u q))

  -- after all n threads of place i comes the next place
  pub came_level : (n i u : ℕ) → u < n → came i n u ≡ came (suc i) 0 u
  unfolding came
  came_level n i u l = rw (lt-ltb u n l, le-ltb u 0 (omega arith), and_false (eqb (place u) (suc i))) (by_equal (place u) i
      (λ e. rw (eq-eqb (place u) i e, lt-ltb (place u) (suc i) (omega arith)) (or_right (ltb (place u) i) true refl))
      (λ e. rw (ne_eqb (place u) i e) (by_below (place u) i
      (λ h. rw (lt-ltb (place u) i h, lt-ltb (place u) (suc i) (omega arith)))
      (λ h. rw (le-ltb (place u) i h, le-ltb (place u) (suc i) (omega (arith, e)))))))

  -- whose place is below i has come then
  pub came_below : (i u : ℕ) → place u < i → came i 0 u ≡ true
  unfolding came
  came_below i u l = rw (lt-ltb (place u) i l)

-- ---- a queue so far

-- lists laid end to end, with one list more
flatten_next : (i : ℕ) (g : ℕ → List ℕ) → flatten (tabulate (suc i) g) ≡ flatten (tabulate i g) ++ g i
unfolding tabulate flatten
flatten_next zero g = append-nil (g 0)
flatten_next (suc i) g = ap (λ l. g 0 ++ l) (flatten_next i (λ j. g (suc j))) ∙ sym (append_assoc (g 0) (flatten (tabulate i (λ j. g (suc j)))) (g (suc i)))

module _ (n : ℕ) (place : ℕ → ℕ) (member : ℕ → Bool) where
  -- those of place i
  abbrev level : ℕ → List ℕ
  level i = among n (λ u. member u && eqb (place u) i)

  -- the members that have come, in order
  unfoldable pub line : ℕ → ℕ → List ℕ
  line i t = flatten (tabulate i level) ++ among t (λ u. member u && eqb (place u) i)

  -- empty at first
  pub line_none : line 0 0 ≡ []
  unfolding line tabulate flatten among
  line_none = refl

  -- thread t comes, if it is a member and its place is i
  pub line_next : (i t : ℕ) → line i (suc t) ≡ line i t ++ put (member t && eqb (place t) i) t
  unfolding line
  line_next i t = ap (λ l. flatten (tabulate i level) ++ l) (among_next t (λ u. member u && eqb (place u) i))
      ∙ sym (append_assoc (flatten (tabulate i level)) (among t (λ u. member u && eqb (place u) i)) (put (member t && eqb (place t) i) t))

  -- after all n threads of place i comes the next place
  pub line_level : (i : ℕ) → line i n ≡ line (suc i) 0
  unfolding line among
  line_level i = sym (flatten_next i level) ∙ sym (append-nil (flatten (tabulate (suc i) level)))

  -- and after all places it is whole
  pub line_last : (i : ℕ) → line i 0 ≡ flatten (tabulate i level)
  unfolding line among
  line_last i = append-nil (flatten (tabulate i level))
