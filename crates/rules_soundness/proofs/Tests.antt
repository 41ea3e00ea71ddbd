-- What the tests of soundness tell, and how they are met: a test at each number, of each member, and of distinct members.
-- Assumes nothing.
use Prim.Native.Nat.{ℕ, zero, suc, ◌<◌, ◌≤◌}
use mathlib.Core.Path.{◌≡◌, refl, sym}
use mathlib.Core.Bool.{Bool, true, false, not, false≢true}
use mathlib.Core.List.{List, [], ◌∷◌}
use native.Mathlib.Omega.{arith}
use native.Mathlib.Decide.{ℕ_discrete}
use native.Mathlib.Nat.{not-suc-le-zero}
use lib.Dec.{eqb, ltb}
use borrow.Author.Tests.{eqb-true, ltb-false, le-ltb, not-true}
use Rattle.laws.proofs.Bools.{or_elim, or_left, or_right, nor_left, nor_right, and_left, and_right, and_both, self}
use Rattle.units.specs.Units.{outside}
use Rattle.rules.specs.Sound.{all, each, members, mem, implies}

-- each of a list of tests
abbrev pub AllTrue : List Bool → Type 0
AllTrue [] = Unit {0}
AllTrue (b ∷ bs) = (b ≡ true) × AllTrue bs

pub all_true : (bs : List Bool) → all bs ≡ true → AllTrue bs
all_true [] e = tt
all_true (b ∷ bs) e = (and_left b (all bs) e, all_true bs (and_right b (all bs) e))

pub true_all : (bs : List Bool) → AllTrue bs → all bs ≡ true
true_all [] h = refl
true_all (b ∷ bs) h = and_both b (all bs) h.0 (true_all bs h.1)

-- two tests that imply each other are one
pub iff : (a b : Bool) → (a ≡ true → b ≡ true) → (b ≡ true → a ≡ true) → a ≡ b
iff true b f g = sym (f refl)
iff false true f g = g refl
iff false false f g = refl

-- a number that is not outside is between, and the other way round
pub within : (low high x : ℕ) → outside low high x ≡ false → (low ≤ x) × (x ≤ high)
within low high x n = (ltb-false x low (nor_left (ltb x low) (ltb high x) n), ltb-false high x (nor_right (ltb x low) (ltb high x) n))

pub inside : (low high x : ℕ) → not (outside low high x) ≡ true → (low ≤ x) × (x ≤ high)
inside low high x e = within low high x (not-true (outside low high x) e)

pub to_inside : (low high x : ℕ) → low ≤ x → x ≤ high → not (outside low high x) ≡ true
to_inside low high x a b = rw (le-ltb x low a, le-ltb high x b)

pub implied : (a b : Bool) → implies a b ≡ true → a ≡ true → b ≡ true
implied true b e h = e
implied false b e h = absurd (false≢true h)

pub implying : (a b : Bool) → (a ≡ true → b ≡ true) → implies a b ≡ true
implying true b h = h refl
implying false b h = refl

pub each_at : (n : ℕ) (f : ℕ → Bool) → each n f ≡ true → (u : ℕ) → u < n → f u ≡ true
unfolding each
each_at zero f e u h = absurd (not-suc-le-zero h)
each_at (suc n) f e u h = go (ℕ_discrete u n) (λ l. each_at n f (and_right (f n) (each n f) e) u l)
  where
    go : Dec (u ≡ n) → (u < n → f u ≡ true) → f u ≡ true
    go (yes q) r = rw q (and_left (f n) (each n f) e)
    go (no q) r = r (omega arith)

pub at_each : (n : ℕ) (f : ℕ → Bool) → ((u : ℕ) → u < n → f u ≡ true) → each n f ≡ true
unfolding each
at_each zero f h = refl
at_each (suc n) f h = and_both (f n) (each n f) (h n (omega arith)) (at_each n f (λ u l. h u (omega arith)))

-- a member is in the queue or is the first
pub mem_first : (t : ℕ) (q : List ℕ) → mem t (t ∷ q) ≡ true
unfolding mem
mem_first t q = or_left (eqb t t) (mem t q) (self t)

pub members_at : (f : ℕ → Bool) (q : List ℕ) → members f q ≡ true → (u : ℕ) → mem u q ≡ true → f u ≡ true
unfolding members mem
members_at f [] e u m = absurd (false≢true m)
members_at f (t ∷ q) e u m = or_elim (eqb u t) (mem u q) m
    (λ y. rw (eqb-true u t y) (and_left (f t) (members f q) e))
    (λ y. members_at f q (and_right (f t) (members f q) e) u y)

pub at_members : (f : ℕ → Bool) (q : List ℕ) → ((u : ℕ) → mem u q ≡ true → f u ≡ true) → members f q ≡ true
unfolding members mem
at_members f [] h = refl
at_members f (t ∷ q) h = and_both (f t) (members f q) (h t (or_left (eqb t t) (mem t q) (self t))) (at_members f q (λ u m. h u (or_right (eqb u t) (mem u q) m)))
