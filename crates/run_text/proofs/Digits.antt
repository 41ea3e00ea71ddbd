-- The digits of a number: how they go on from the rest, and how many there are at most.
-- Assumes nothing.
use Prim.Native.Nat.{ℕ, zero, suc, ◌+◌, ◌/◌, ◌%◌, ◌^◌, ◌<◌, ◌≤◌}
use mathlib.Core.Path.{◌≡◌}
use mathlib.Core.List.{[], ◌∷◌, ◌++◌}
use native.Mathlib.Nat.{pow-suc}
use native.Mathlib.Omega.{arith}
use borrow.Author.Tests.{lt-ltb, le-ltb}
use lib.ListN.{length, length-append}
use Rattle.laws.proofs.Lists.{by_below}
use Rattle.run_text.specs.Texts.{digits_in, digits}

-- turns beyond those that are needed change nothing
enough : (f g n : ℕ) → n < f → n < g → digits_in f n ≡ digits_in g n
unfolding digits_in
enough zero g n p q = absurd (omega arith)
enough (suc f) zero n p q = absurd (omega arith)
enough (suc f) (suc g) n p q =
    by_below n 10 (λ h. rw (lt-ltb _ _ h)) (λ h. rw (le-ltb _ _ h, enough f g (n / 10) (omega arith) (omega arith)))

-- below 10 there is one digit
pub one_digit : (n : ℕ) → n < 10 → digits n ≡ (48 + n % 10) ∷ []
unfolding digits digits_in
one_digit n h = rw (lt-ltb _ _ h)

-- from 10 on the last digit comes after those of the tenth
pub last_digit : (n : ℕ) → 10 ≤ n → digits n ≡ digits (n / 10) ++ ((48 + n % 10) ∷ [])
unfolding digits digits_in
last_digit n h = rw (le-ltb _ _ h, enough n (suc (n / 10)) (n / 10) (omega arith) (omega arith))

-- a number below 10 to the power of k has at most k digits, or one
few : (k turns n : ℕ) → n < 10 ^ suc k → length (digits_in turns n) ≤ suc k
unfolding digits_in
few k zero n h = omega arith
few zero (suc turns) n h =
    let l : n < 10 = h in
    rw (lt-ltb _ _ l) (omega arith)
few (suc k) (suc turns) n h =
    let b = rw (pow-suc 10 (suc k)) at h in
    let r = few k turns (n / 10) (omega arith) in
    by_below n 10 (λ l. rw (lt-ltb _ _ l) (omega arith)) (λ l. rw (le-ltb _ _ l, length-append) (omega arith))

pub few_digits : (k n : ℕ) → n < 10 ^ suc k → length (digits n) ≤ suc k
unfolding digits
few_digits k n h = few k (suc n) n h
