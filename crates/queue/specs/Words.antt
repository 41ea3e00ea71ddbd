-- A word of 16 bits, one for each priority: its highest bit, and the word with one bit set or cleared. The code's promises cite these.
-- Assumes nothing.
use Rattle.std.specs.Prelude.{ℕ, ◌-◌, Bool, cond, eqb, ltb}
use Rattle.std.specs.Int.Count.{count_leading_zeros}
use Rattle.laws.specs.Bits.{holds, word_of}

-- the highest bit that is set, 15 minus the leading zeros, or 16 where none is
unfoldable pub highest_bit : ℕ → ℕ
highest_bit w = cond (eqb w 0) 16 (15 - count_leading_zeros 16 w)

-- bit p is as b says, and each other bit as it was; past 15 there is no bit
unfoldable pub with_bit : ℕ → ℕ → Bool → ℕ
with_bit w p b = cond (ltb p 16) (word_of 16 (λ i. cond (eqb i p) b (holds i w))) w
