-- The arithmetic of one timer: its spoke and its turns, and what a tick makes of them.
-- Assumes nothing.
use Prim.Native.Nat.{ℕ, zero, suc, ◌+◌, ◌-◌, ◌*◌, ◌/◌, ◌%◌, ◌<◌}
use mathlib.Core.Path.{◌≡◌, refl, sym, ◌∙◌}
use mathlib.Core.Bool.{false, cond, xor, ◌&&◌}
use native.Mathlib.Omega.{arith}
use lib.Dec.{eqb}
use borrow.Author.Tests.{eq-eqb, ne_eqb, eqb-true, eqb-false}
use Rattle.laws.proofs.Bools.{by_cases}
use Rattle.laws.proofs.Bits.{xor_false}
use Rattle.wheel.specs.Hung.{spoke_of, turns_of}

-- a stopped timer hangs on no spoke
pub off : (t s : ℕ) → s < 64 → eqb (spoke_of t 0) s ≡ false
unfolding spoke_of
off t s h = ne_eqb 255 s (λ e. omega arith)

-- its spoke is written 255
pub none : (t : ℕ) → spoke_of t 0 ≡ 255
unfolding spoke_of
none t = refl

-- a running one hangs on one of the 64
pub on : (t r : ℕ) → 0 < r → spoke_of t r ≡ (t + r) % 64
unfolding spoke_of
on t r h = rw (ne_eqb r 0 (λ e. omega arith))

-- the way from position t to the spoke of r ticks
ahead : (t r : ℕ) → t < 64 → 0 < r → ((t + r) % 64 + 63 - t) % 64 ≡ (r - 1) % 64
ahead t r a b = omega arith

-- the ticks left, from the turns and the way to the spoke
pub way : (t r : ℕ) → t < 64 → 0 < r → r < 65536 → (turns_of r * 64 + ((t + r) % 64 + 63 - t % 64) % 64 + 1) % 65536 ≡ r
unfolding turns_of
way t r a b c =
    let e : t % 64 ≡ t = omega arith in
    rw (e, ahead t r a b) (omega arith)

-- more than one is not one
more : (r : ℕ) → eqb (suc (suc r)) 1 ≡ false
more r = ne_eqb (suc (suc r)) 1 (λ e. omega arith)

-- at position t, with r ticks left; the tick moves to position u
module _ (t u : ℕ) (place : t < 64) (next : u ≡ (t + 1) % 64) where
  -- with more than one tick left it stays on its spoke
  pub stays : (r : ℕ) → 1 < r → spoke_of u (r - 1) ≡ spoke_of t r
  stays r h = rw (on u (r - 1) (omega arith), on t r (omega arith)) (omega arith)

  -- with one tick left it hangs on the next spoke
  pub last : spoke_of t 1 ≡ u
  last = on t 1 (omega arith) ∙ sym next

  -- a timer on the next spoke with no turns left is one with one tick left
  pub ends : (r : ℕ) → (eqb (spoke_of t r) u && eqb (turns_of r) 0) ≡ eqb r 1
  unfolding turns_of
  ends zero = rw (off t u (omega arith))
  ends (suc zero) = rw (last, eq-eqb u u refl)
  ends (suc (suc r)) =
      by_cases (eqb (spoke_of t (suc (suc r))) u)
      (λ e. let a : (t + suc (suc r)) % 64 ≡ u = sym (on t (suc (suc r)) (omega arith)) ∙ eqb-true _ _ e in
      rw (e, more r) (ne_eqb ((suc (suc r) - 1) / 64) 0 (λ z. omega arith)))
      (λ e. rw (e, more r))

  -- who hangs on the next spoke after those that end are taken off
  pub kept : (r : ℕ) → xor (eqb (spoke_of t r) u) (eqb r 1) ≡ eqb (spoke_of u (r - 1)) u
  unfolding xor
  kept zero = rw (off t u (omega arith), off u u (omega arith))
  kept (suc zero) = rw (last, eq-eqb u u refl, off u u (omega arith))
  kept (suc (suc r)) = rw (stays (suc (suc r)) (omega arith), more r) (xor_false (eqb (spoke_of t (suc (suc r))) u))

  -- on any other spoke the same timers hang
  pub others : (r s : ℕ) → s < 64 → (s ≡ u → ⊥) → eqb (spoke_of t r) s ≡ eqb (spoke_of u (r - 1)) s
  others zero s h n = rw (off t s h, off u s h)
  others (suc zero) s h n = rw (last, off u s h) (ne_eqb u s (λ e. n (sym e)))
  others (suc (suc r)) s h n = rw (stays (suc (suc r)) (omega arith))

  -- the spoke after the tick
  pub spoke_after : (r : ℕ) → cond (eqb r 1) 255 (spoke_of t r) ≡ spoke_of u (r - 1)
  spoke_after zero = rw (none t, none u)
  spoke_after (suc zero) = sym (none u)
  spoke_after (suc (suc r)) = rw (stays (suc (suc r)) (omega arith), more r)

  -- the turns after the tick
  pub turns_after : (r : ℕ) → cond (eqb (spoke_of t r) u) (turns_of r - 1) (turns_of r) ≡ turns_of (r - 1)
  unfolding turns_of
  turns_after zero = rw (off t u (omega arith))
  turns_after (suc zero) = rw (last, eq-eqb u u refl)
  turns_after (suc (suc r)) =
      by_cases (eqb (spoke_of t (suc (suc r))) u)
      (λ e. let a : (t + suc (suc r)) % 64 ≡ u = sym (on t (suc (suc r)) (omega arith)) ∙ eqb-true _ _ e in
      rw e (omega arith))
      (λ e. let a : spoke_of t (suc (suc r)) ≡ u → ⊥ = eqb-false _ _ e in
      let b : spoke_of t (suc (suc r)) ≡ (t + suc (suc r)) % 64 = on t (suc (suc r)) (omega arith) in
      rw e (omega arith))
