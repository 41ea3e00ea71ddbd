-- How the word of a set and the numbers of it in ascending order follow one another when a number is put in, taken out, or the lowest is taken off.
-- Assumes nothing.
use Prim.Native.Nat.{ℕ, zero, suc, ◌+◌, ◌-◌, ◌*◌, ◌/◌, ◌%◌, ◌^◌, ◌<◌, ◌≤◌, suc-le-suc, max, min}
use mathlib.Core.Path.{◌≡◌, refl, ap, ◌∙◌}
use mathlib.Core.Bool.{Bool, true, false, xor, ◌||◌, ◌&&◌}
use mathlib.Core.List.{List, [], ◌∷◌, ◌++◌, map, map-append, append_assoc, append-nil}
use native.Mathlib.Nat.{pow-suc, not-suc-le-zero, le_of_suc-le-suc, zero-lt-suc}
use native.Mathlib.Omega.{arith}
use lib.ListN.{length, length-append, length-map}
use lib.Dec.{eqb, eqb-zero-suc, eqb-suc-zero, eqb-suc-suc}
use lib.Bits.{bit_and, bit_or, bit_xor, differ, and_step, or_step, xor_step, and_self}
use lib.Count.{count_trailing_zeros}
use borrow.Author.Tests.{eqb-true, eqb-false}
use Rattle.laws.specs.Lists.{put, among}
use Rattle.laws.specs.Bits.{digit, holds, word_of, members, has}
use Rattle.laws.proofs.Bools.{by_cases, or_assoc, or_false, and-true, and_false}

-- ---- a word's lowest digit and the rest

-- a digit below q twos is left out by halving, and is the odd rest
half : (q : ℕ) (b : Bool) → (q * 2 + digit b) / 2 ≡ q
half q true = omega arith
half q false = omega arith

low : (q : ℕ) (b : Bool) → (q * 2 + digit b) % 2 ≡ digit b
low q true = omega arith
low q false = omega arith

-- a digit is 1 exactly for true
is_one : (b : Bool) → eqb (digit b) 1 ≡ b
is_one true = refl
is_one false = refl

-- the word of a set, halved, and its lowest digit
module _ (k : ℕ) (p : ℕ → Bool) where
  word_half : word_of (suc k) p / 2 ≡ word_of k (λ i. p (suc i))
  unfolding word_of
  word_half = half (word_of k (λ i. p (suc i))) (p 0)

  word_low : word_of (suc k) p % 2 ≡ digit (p 0)
  unfolding word_of
  word_low = low (word_of k (λ i. p (suc i))) (p 0)

-- the same numbers make the same word
pub word_same : (k : ℕ) (p q : ℕ → Bool) → ((i : ℕ) → i < k → p i ≡ q i) → word_of k p ≡ word_of k q
unfolding word_of
word_same zero p q e = refl
word_same (suc k) p q e =
    rw (e 0 (zero-lt-suc k), word_same k (λ i. p (suc i)) (λ i. q (suc i)) (λ i h. e (suc i) (omega arith)))

-- and the same list
pub among_same : (k : ℕ) (p q : ℕ → Bool) → ((i : ℕ) → i < k → p i ≡ q i) → among k p ≡ among k q
unfolding among
among_same zero p q e = refl
among_same (suc k) p q e =
    rw (e 0 (zero-lt-suc k), among_same k (λ i. p (suc i)) (λ i. q (suc i)) (λ i h. e (suc i) (omega arith)))

-- a word holds the numbers that it was made of
pub holds_word : (k : ℕ) (p : ℕ → Bool) (i : ℕ) → i < k → holds i (word_of k p) ≡ p i
unfolding holds
holds_word zero p i h = absurd (not-suc-le-zero h)
holds_word (suc k) p zero h = rw (word_low k p, is_one (p 0))
holds_word (suc k) p (suc i) h = rw (word_half k p) (holds_word k (λ i. p (suc i)) i (le_of_suc-le-suc h))

-- and they are its members
pub members_word : (k : ℕ) (p : ℕ → Bool) → members k (word_of k p) ≡ among k p
members_word k p = among_same k (λ i. holds i (word_of k p)) p (holds_word k p)

-- a word is that of its own bits
pub word_own : (k w : ℕ) → w < 2 ^ k → word_of k (λ i. holds i w) ≡ w
unfolding word_of holds
word_own zero w h = omega arith
word_own (suc k) w h =
    rw (word_own k (w / 2) (omega (arith, pow-suc 2 k)))
    (by_cases (eqb (w % 2) 1)
    (λ e. rw e (omega (arith, eqb-true (w % 2) 1 e)))
    (λ e. rw e (omega (arith, eqb-false (w % 2) 1 e))))

-- it fits in so many digits
pub word_below : (k : ℕ) (p : ℕ → Bool) → word_of k p < 2 ^ k
unfolding word_of
word_below zero p = omega arith
word_below (suc k) p = omega (arith, pow-suc 2 k, word_below k (λ i. p (suc i)), digit_most (p 0))
  where
    digit_most : (b : Bool) → digit b ≤ 1
    digit_most true = omega arith
    digit_most false = omega arith

-- ---- the highest bit

-- a bit that a number does not reach is not set
pub holds_past : (i w : ℕ) → w < 2 ^ i → holds i w ≡ false
unfolding holds
holds_past zero w h = let z : w ≡ 0 = omega arith in rw z
holds_past (suc i) w h = holds_past i (w / 2) (omega (arith, pow-suc 2 i))

-- the last that it reaches is
pub holds_top : (i w : ℕ) → 2 ^ i ≤ w → w < 2 ^ suc i → holds i w ≡ true
unfolding holds
holds_top zero w l h = let z : w ≡ 1 = omega arith in rw z
holds_top (suc i) w l h = holds_top i (w / 2) (omega (arith, pow-suc 2 i)) (omega (arith, pow-suc 2 i, pow-suc 2 (suc i)))

-- ---- sets joined, and a number put in or taken out

-- the digits of a bit that both words have, of one that either has, and of one that only one has
min_digit : (a b : Bool) → min (digit a) (digit b) ≡ digit (a && b)
min_digit true true = refl
min_digit true false = refl
min_digit false true = refl
min_digit false false = refl

max_digit : (a b : Bool) → max (digit a) (digit b) ≡ digit (a || b)
max_digit true true = refl
max_digit true false = refl
max_digit false true = refl
max_digit false false = refl

differ_digit : (a b : Bool) → differ (digit a) (digit b) ≡ digit (xor a b)
unfolding xor
differ_digit true true = refl
differ_digit true false = refl
differ_digit false true = refl
differ_digit false false = refl

-- what is in one of two sets and not in the other, where it is not in the second
pub xor_false : (b : Bool) → xor b false ≡ b
unfolding xor
xor_false true = refl
xor_false false = refl

-- two words of a digit more
module _ (k : ℕ) (p q : ℕ → Bool) where
  and_more : bit_and (word_of (suc k) p) (word_of (suc k) q) ≡ bit_and (word_of k (λ i. p (suc i))) (word_of k (λ i. q (suc i))) * 2 + digit (p 0 && q 0)
  and_more = rw (and_step (word_of (suc k) p) (word_of (suc k) q), word_half k p, word_half k q, word_low k p, word_low k q, min_digit (p 0) (q 0))

  or_more : bit_or (word_of (suc k) p) (word_of (suc k) q) ≡ bit_or (word_of k (λ i. p (suc i))) (word_of k (λ i. q (suc i))) * 2 + digit (p 0 || q 0)
  or_more = rw (or_step (word_of (suc k) p) (word_of (suc k) q), word_half k p, word_half k q, word_low k p, word_low k q, max_digit (p 0) (q 0))

  xor_more : bit_xor (word_of (suc k) p) (word_of (suc k) q) ≡ bit_xor (word_of k (λ i. p (suc i))) (word_of k (λ i. q (suc i))) * 2 + digit (xor (p 0) (q 0))
  xor_more = rw (xor_step (word_of (suc k) p) (word_of (suc k) q), word_half k p, word_half k q, word_low k p, word_low k q, differ_digit (p 0) (q 0))

-- what is in both sets
pub and_words : (k : ℕ) (p q : ℕ → Bool) → bit_and (word_of k p) (word_of k q) ≡ word_of k (λ i. p i && q i)
unfolding word_of
and_words zero p q = refl
and_words (suc k) p q = and_more k p q ∙ rw (and_words k (λ i. p (suc i)) (λ i. q (suc i)))

-- what is in either set
pub or_words : (k : ℕ) (p q : ℕ → Bool) → bit_or (word_of k p) (word_of k q) ≡ word_of k (λ i. p i || q i)
unfolding word_of
or_words zero p q = refl
or_words (suc k) p q = or_more k p q ∙ rw (or_words k (λ i. p (suc i)) (λ i. q (suc i)))

-- what is in one of the two sets and not in the other
pub xor_words : (k : ℕ) (p q : ℕ → Bool) → bit_xor (word_of k p) (word_of k q) ≡ word_of k (λ i. xor (p i) (q i))
unfolding word_of
xor_words zero p q = refl
xor_words (suc k) p q = xor_more k p q ∙ rw (xor_words k (λ i. p (suc i)) (λ i. q (suc i)))

-- nothing
pub word_none : (k : ℕ) (p : ℕ → Bool) → ((i : ℕ) → i < k → p i ≡ false) → word_of k p ≡ 0
unfolding word_of
word_none zero p e = refl
word_none (suc k) p e = rw (e 0 (zero-lt-suc k), word_none k (λ i. p (suc i)) (λ i h. e (suc i) (omega arith)))

-- one number alone
pub word_one : (k j : ℕ) → j < k → word_of k (λ i. eqb i j) ≡ 2 ^ j
unfolding word_of
word_one zero j h = absurd (not-suc-le-zero h)
word_one (suc k) zero h = rw (word_none k (λ i. eqb (suc i) 0) (λ i l. eqb-suc-zero i))
word_one (suc k) (suc j) h =
    let e : word_of k (λ i. eqb (suc i) (suc j)) ≡ 2 ^ j = word_same k _ _ (λ i l. eqb-suc-suc i j) ∙ word_one k j (le_of_suc-le-suc h) in
    rw (e, eqb-zero-suc j, pow-suc 2 j) (omega arith)

-- ---- the lowest number, and the rest

-- w without its lowest bit, by w's lowest digit
module _ (w : ℕ) where
  less_odd : w % 2 ≡ 1 → bit_and w (w - 1) ≡ w / 2 * 2
  less_odd e =
      let a : (w - 1) / 2 ≡ w / 2 = omega arith in
      let b : (w - 1) % 2 ≡ 0 = omega arith in
      rw (and_step w (w - 1), a, b, e, and_self (w / 2)) (omega arith)

  less_even : w % 2 ≡ 0 → 0 < w → bit_and w (w - 1) ≡ bit_and (w / 2) (w / 2 - 1) * 2
  less_even e l =
      let a : (w - 1) / 2 ≡ w / 2 - 1 = omega arith in
      let b : (w - 1) % 2 ≡ 1 = omega arith in
      rw (and_step w (w - 1), a, b, e) (omega arith)

-- an even number has the rest's members, each one higher
members_even : (k q : ℕ) → members (suc k) (q * 2) ≡ map suc (members k q)
unfolding among holds
members_even k q =
    let a : q * 2 / 2 ≡ q = omega arith in
    let b : q * 2 % 2 ≡ 0 = omega arith in
    rw (a, b)

-- the first member and the rest, of a word of one digit more
module _ (k w : ℕ) where
  first_odd : w % 2 ≡ 1 → members (suc k) w ≡ count_trailing_zeros (suc k) w ∷ members (suc k) (bit_and w (w - 1))
  unfolding among holds count_trailing_zeros
  first_odd e = rw (less_odd w e, members_even k (w / 2), e)

  first_even : w % 2 ≡ 0 → 0 < w → members k (w / 2) ≡ count_trailing_zeros k (w / 2) ∷ members k (bit_and (w / 2) (w / 2 - 1))
      → members (suc k) w ≡ count_trailing_zeros (suc k) w ∷ members (suc k) (bit_and w (w - 1))
  unfolding among holds count_trailing_zeros
  first_even e l rest = rw (less_even w e l, members_even k (bit_and (w / 2) (w / 2 - 1)), e, rest)

-- a set that is not empty begins with the lowest bit's number, and goes on without it
pub members_first : (k w : ℕ) → 0 < w → w < 2 ^ k → members k w ≡ count_trailing_zeros k w ∷ members k (bit_and w (w - 1))
members_first zero w l h = absurd (omega arith)
members_first (suc k) w l h =
    by_cases (eqb (w % 2) 1)
    (λ e. first_odd k w (eqb-true _ _ e))
    (λ e. let z : w % 2 ≡ 0 = omega (arith, eqb-false (w % 2) 1 e) in
    first_even k w z l (members_first k (w / 2) (omega arith) (omega (arith, pow-suc 2 k))))

-- whose number is below k
pub trailing_lt : (k w : ℕ) → 0 < w → w < 2 ^ k → count_trailing_zeros k w < k
unfolding count_trailing_zeros
trailing_lt zero w l h = absurd (omega arith)
trailing_lt (suc k) w l h =
    by_cases (eqb (w % 2) 1)
    (λ e. rw (eqb-true (w % 2) 1 e) (zero-lt-suc k))
    (λ e. let z : w % 2 ≡ 0 = omega (arith, eqb-false (w % 2) 1 e) in
    rw z (suc-le-suc (trailing_lt k (w / 2) (omega arith) (omega (arith, pow-suc 2 k)))))

-- the empty set has no member
pub members_none : (k : ℕ) → members k 0 ≡ []
unfolding among holds
members_none zero = refl
members_none (suc k) = rw (members_none k)

-- ---- lists of the numbers below k

-- a number put into a list, one higher
shift_put : (b : Bool) (k : ℕ) → map suc (put b k) ≡ put b (suc k)
shift_put true k = refl
shift_put false k = refl

-- one number more, at the end
pub among_next : (k : ℕ) (p : ℕ → Bool) → among (suc k) p ≡ among k p ++ put (p k) k
unfolding among
among_next zero p = append-nil (put (p 0) 0)
among_next (suc k) p =
    ap (λ (l : List ℕ). put (p 0) 0 ++ map suc l) (among_next k (λ i. p (suc i)))
    ∙ simp (map-append suc, shift_put, append_assoc)

-- at most one number is put
length_put : (b : Bool) (i : ℕ) → length (put b i) ≤ 1
length_put true i = omega arith
length_put false i = omega arith

-- there are at most k
pub among_length : (k : ℕ) (p : ℕ → Bool) → length (among k p) ≤ k
unfolding among
among_length zero p = omega arith
among_length (suc k) p =
    simp (length-append, length-map) (omega (arith, length_put (p 0) 0, among_length k (λ i. p (suc i))))

-- what is in either list, in a list of at most one number, and in a list of numbers one higher
has_append : (n : ℕ) (a b : List ℕ) → has n (a ++ b) ≡ (has n a || has n b)
has_append n [] b = refl
has_append n (x ∷ a) b = rw (has_append n a b) (or_assoc (eqb n x) (has n a) (has n b))

has_put : (n : ℕ) (b : Bool) (i : ℕ) → has n (put b i) ≡ (b && eqb n i)
has_put n true i = or_false (eqb n i)
has_put n false i = refl

has_shift_zero : (l : List ℕ) → has 0 (map suc l) ≡ false
has_shift_zero [] = refl
has_shift_zero (x ∷ l) = rw (eqb-zero-suc x) (has_shift_zero l)

has_shift : (n : ℕ) (l : List ℕ) → has (suc n) (map suc l) ≡ has n l
has_shift n [] = refl
has_shift n (x ∷ l) = rw (eqb-suc-suc n x, has_shift n l)

-- a number below k is in the list if p holds of it
pub has_among : (k : ℕ) (p : ℕ → Bool) (i : ℕ) → i < k → has i (among k p) ≡ p i
unfolding among
has_among zero p i h = absurd (not-suc-le-zero h)
has_among (suc k) p zero h = simp (has_append, has_put, has_shift_zero, and-true, or_false)
has_among (suc k) p (suc i) h = simp (has_append, has_put, has_shift, eqb-suc-zero, and_false) (has_among k (λ i. p (suc i)) i (le_of_suc-le-suc h))

-- and no number from k on is
pub has_past : (k : ℕ) (p : ℕ → Bool) (i : ℕ) → k ≤ i → has i (among k p) ≡ false
unfolding among
has_past zero p i h = refl
has_past (suc k) p zero h = absurd (not-suc-le-zero h)
has_past (suc k) p (suc i) h =
    simp (has_append, has_put, has_shift, eqb-suc-zero, and_false)
    (has_past k (λ i. p (suc i)) i (le_of_suc-le-suc h))
