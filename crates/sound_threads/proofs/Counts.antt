-- How many numbers below n pass a test, a number at a time.
-- Assumes nothing.
use Prim.Native.Nat.{ℕ, zero, suc, ◌+◌, ◌<◌, ◌≤◌}
use mathlib.Core.Path.{◌≡◌, refl, ap}
use mathlib.Core.Bool.{Bool, true, false, cond}
use native.Mathlib.Omega.{arith}
use native.Mathlib.Numerals.{add-one}
use Rattle.std.specs.Int.{from_bool}
use Rattle.rules.specs.Page.{how_many}

-- a test as a byte is 1 or 0
as_bit : (b : Bool) → from_bool b ≡ cond b 1 0
as_bit true = refl
as_bit false = refl

-- at most 1
bit_most : (b : Bool) → cond b 1 0 ≤ 1
bit_most true = omega arith
bit_most false = omega arith

-- none below 0
pub many_none : (f : ℕ → Bool) → how_many 0 f ≡ 0
unfolding how_many
many_none f = refl

-- with one more number
many_next : (n : ℕ) (f : ℕ → Bool) → how_many n f + cond (f n) 1 0 ≡ how_many (n + 1) f
many_next n f = rw add-one (unfold how_many in omega arith)

-- no more than there are
many_most : (n : ℕ) (f : ℕ → Bool) → how_many n f ≤ n
unfolding how_many
many_most zero f = omega arith
many_most (suc n) f = omega (arith, bit_most (f n), many_most n f)

-- a count with the next number's test as a byte
pub many_on : (n so : ℕ) (f : ℕ → Bool) (b : Bool) (r : ℕ) → so ≡ how_many n f → r ≡ from_bool b → b ≡ f n → so + r ≡ how_many (n + 1) f
many_on n so f b r e bit test = omega (arith, e, bit, as_bit b, ap {B = ℕ} (λ (t : Bool). cond t 1 0) test, many_next n f)

-- it is a byte too
pub many_fits : (n so : ℕ) (f : ℕ → Bool) (b : Bool) (r : ℕ) → so ≡ how_many n f → r ≡ from_bool b → n < 255 → so + r < 256
many_fits n so f b r e bit h = omega (arith, e, bit, as_bit b, bit_most b, many_most n f)
