-- What the length of a delay and the repeat are: a delay is out of range exactly above 65,534,000 microseconds; n ticks, of which the first is partly used,
-- last at least v microseconds, and fewer do not; the repeat is 1 to 65,535 where n is, and n is at most one more.
-- Assumes nothing.
use Rattle.std.specs.Prelude.{Some, None}
use Prim.Native.Nat.{ℕ, ◌+◌, ◌-◌, ◌*◌, ◌<◌, ◌≤◌}
use mathlib.Core.Path.{◌≡◌, refl, subst}
use mathlib.Core.Bool.{Bool, true, false}
use native.Mathlib.Omega.{arith}
use lib.Dec.{ltb}
use borrow.Author.Tests.{eq-eqb, ne_eqb, ltb-true, ltb-false, lt-ltb, le-ltb}
use Rattle.units.specs.declared.Micros.{Micros}
use Rattle.units.specs.Units.{rounded_up, ticks_in, repeat_of, in_ticks, too_long, length_of}

-- ---- the length

-- by a number that is the delay, rounded up
pub length_out : (v : Micros) (up : ℕ) → up ≡ rounded_up v.0 → 65535 < up + 1 → None ≡ length_of v
length_out v up is over = rw (lt-ltb 65535 (ticks_in v.0) (omega (arith, is, over)))

pub length_whole : (v : Micros) (up : ℕ) → up ≡ rounded_up v.0 → up + 1 ≤ 65535 → Some (in_ticks (up + 1)) ≡ length_of v
length_whole v up is within = rw (le-ltb 65535 (ticks_in v.0) (omega (arith, is, within)), is)

-- out of range exactly above 65,534,000
pub refused_above_65534000 : (v : ℕ) → too_long (ticks_in v) ≡ ltb 65534000 v
refused_above_65534000 v = go (ltb 65534000 v) refl
  where
    go : (b : Bool) → ltb 65534000 v ≡ b → too_long (ticks_in v) ≡ b
    go true q = lt-ltb 65535 (ticks_in v) (omega (arith, ltb-true 65534000 v q))
    go false q = le-ltb 65535 (ticks_in v) (omega (arith, ltb-false 65534000 v q))

-- what n ticks last beside the one in progress is not less than the delay: a timer does not fire early
pub never_early : (v : ℕ) → v ≤ (ticks_in v - 1) * 1000
never_early v = omega arith

-- and what fewer ticks last is, of any that a timer can have
pub no_later_than_needed : (v n : ℕ) → 1 ≤ n → n < ticks_in v → (n - 1) * 1000 < v
no_later_than_needed v n some fewer = omega arith

-- ---- the repeat

pub repeat_short : (n : ℕ) → n < 2 → 1 ≡ repeat_of n
unfolding repeat_of
repeat_short n few = rw (eq-eqb (n - 1) 0 (omega arith))

pub repeat_long : (n : ℕ) → 2 ≤ n → n - 1 ≡ repeat_of n
unfolding repeat_of
repeat_long n many = rw (ne_eqb (n - 1) 0 (λ z. omega arith))

-- a fact about the repeat, from what it is below 2 and from 2 on
by_repeat : (P : ℕ → Type 0) (n : ℕ) → (n < 2 → P 1) → (2 ≤ n → P (n - 1)) → P (repeat_of n)
by_repeat P n short long = go (ltb n 2) refl
  where
    go : (b : Bool) → ltb n 2 ≡ b → P (repeat_of n)
    go true q = let few = ltb-true n 2 q in subst P (repeat_short n few) (short few)
    go false q = let many = ltb-false n 2 q in subst P (repeat_long n many) (long many)

-- at least 1
pub repeat_some : (n : ℕ) → 1 ≤ repeat_of n
repeat_some n = by_repeat (λ r. 1 ≤ r) n (λ few. omega arith) (λ many. omega arith)

-- n is at most one more
pub repeat_most : (n : ℕ) → n ≤ repeat_of n + 1
repeat_most n = by_repeat (λ r. n ≤ r + 1) n (λ few. omega arith) (λ many. omega arith)

-- and it is not more than n, where n is at least 1
pub repeat_within : (n : ℕ) → 1 ≤ n → repeat_of n ≤ n
repeat_within n some = by_repeat (λ r. r ≤ n) n (λ few. omega arith) (λ many. omega arith)

-- the ticks from one expiry to the next last at least the delay
pub repeat_never_early : (v : ℕ) → v ≤ repeat_of (ticks_in v) * 1000
repeat_never_early v = by_repeat (λ r. v ≤ r * 1000) (ticks_in v) (λ few. omega arith) (λ many. omega arith)
