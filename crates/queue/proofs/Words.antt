-- The word of a set of queues: a bit set or cleared by what the code does to the word, and the highest bit as the plain search finds it.
-- Assumes nothing.
use Prim.Native.Nat.{ℕ, suc, ◌+◌, ◌-◌, ◌^◌, ◌<◌, ◌≤◌}
use mathlib.Core.Path.{◌≡◌, refl, sym, ap, ◌∙◌}
use mathlib.Core.Logic.{inl, inr}
use mathlib.Core.Bool.{Bool, true, false, xor, cond, ◌||◌, ◌&&◌}
use native.Mathlib.Nat.{lt_of_lt_of_le}
use native.Mathlib.Omega.{arith}
use lib.Bits.{bit_and, bit_or, bit_xor}
use lib.Count.{count_leading_zeros, leading_top}
use lib.Dec.{eqb}
use lib.Pow.{pow_pos, pow_mono}
use borrow.Author.Tests.{lt-ltb, le-ltb, ne_eqb}
use Rattle.laws.specs.Bits.{holds, word_of}
use Rattle.laws.proofs.Lists.{by_equal}
use Rattle.laws.proofs.Bits.{word_same, word_own, word_one, holds_past, holds_top, and_words, or_words, xor_words}
use Rattle.queue.specs.Words.{highest_bit, with_bit}
use Rattle.queue.specs.Linking.{highest_below}
use Rattle.queue.specs.Stands.{IsHighest}
use Rattle.queue.proofs.Sets.{highest_unique}

-- ---- one bit

-- of a priority
pub bit_at : (w p : ℕ) (b : Bool) → p < 16 → with_bit w p b ≡ word_of 16 (λ i. cond (eqb i p) b (holds i w))
unfolding with_bit
bit_at w p b low = rw (lt-ltb p 16 low)

-- past 15 there is none
pub bit_past : (w p : ℕ) (b : Bool) → 16 ≤ p → with_bit w p b ≡ w
unfolding with_bit
bit_past w p b past = rw (le-ltb p 16 past)

-- what is in one of two sets or is the new one, and what is in a set and is not the old one
or_new : (a b : Bool) → (a || b) ≡ cond b true a
or_new true true = refl
or_new true false = refl
or_new false true = refl
or_new false false = refl

xor_old : (a b : Bool) → xor a (a && b) ≡ cond b false a
unfolding xor
xor_old true true = refl
xor_old true false = refl
xor_old false true = refl
xor_old false false = refl

module _ (w p : ℕ) (word : w < 2 ^ 16) (low : p < 16) where
  -- the bits of the word
  abbrev own : ℕ → Bool
  own i = holds i w

  -- bit p alone
  abbrev alone : ℕ → Bool
  alone i = eqb i p

  -- the bit is set
  pub bit_set : bit_or w (2 ^ p) ≡ with_bit w p true
  bit_set =
      ap (bit_or w) (sym (word_one 16 p low)) ∙ ap (λ x. bit_or x (word_of 16 alone)) (sym (word_own 16 w word))
      ∙ or_words 16 own alone ∙ word_same 16 _ _ (λ i l. or_new (own i) (alone i)) ∙ sym (bit_at w p true low)

  -- and cleared
  pub bit_cleared : bit_xor w (bit_and w (2 ^ p)) ≡ with_bit w p false
  bit_cleared =
      ap (λ x. bit_xor w (bit_and w x)) (sym (word_one 16 p low)) ∙ ap (λ x. bit_xor x (bit_and x (word_of 16 alone))) (sym (word_own 16 w word))
      ∙ ap (bit_xor (word_of 16 own)) (and_words 16 own alone) ∙ xor_words 16 own (λ i. own i && alone i)
      ∙ word_same 16 _ _ (λ i l. xor_old (own i) (alone i)) ∙ sym (bit_at w p false low)

-- ---- the highest bit

-- by the leading zeros it is the highest that the word holds
highest_held : (w : ℕ) → w < 2 ^ 16 → IsHighest (λ p. holds p w) 16 16 (highest_bit w)
unfolding highest_bit
highest_held w word = by_equal w 0
    (λ e. rw (e) (inr (refl, λ u l. holds_past u 0 (lt_power u))))
    (λ n. rw (ne_eqb w 0 n) (some (leading_top 16 w (omega (arith, n)) word)))
  where
    lt_power : (u : ℕ) → 0 < 2 ^ u
    lt_power u = pow_pos u

    some : (j : ℕ) × (count_leading_zeros 16 w + suc j ≡ 16) × (2 ^ j ≤ w) × (w < 2 ^ suc j) → IsHighest (λ p. holds p w) 16 16 (15 - count_leading_zeros 16 w)
    some t =
        let e : 15 - count_leading_zeros 16 w ≡ t.0 = omega (arith, t.1) in
        rw e (inl (omega (arith, t.1), holds_top t.0 w t.2 t.3, λ u l k. holds_past u w (lt_of_lt_of_le t.3 (pow_mono l))))

-- so it is what the plain search over the bits finds
pub bits_searched : (w : ℕ) → w < 2 ^ 16 → highest_bit w ≡ highest_below (λ p. holds p w) 16 16
bits_searched w word = highest_unique (λ p. holds p w) 16 16 (highest_bit w) (highest_held w word)
