-- One signal of a broadcast, and its two ends: no thread waits any more, or 32 have left.
-- Assumes nothing.
use Prim.Native.Nat.{ℕ, suc, ◌+◌, ◌-◌, ◌<◌, ◌≤◌}
use mathlib.Core.Path.{◌≡◌}
use native.Mathlib.Numerals.{add-one}
use native.Mathlib.Omega.{arith}
use borrow.Author.Tests.{eq-eqb, ne_eqb}
use Rattle.value_effects.specs.declared.Scheduler.{Scheduler}
use Rattle.value_effects.specs.declared.Signalled.{Signalled}
use Rattle.value_effects.specs.Effects.{signal_model, broadcast_model}

-- what a broadcast comes to from where n have left
abbrev pub on_from : ℕ → Scheduler → ℕ → Signalled
on_from n x c = broadcast_model (32 - n) n x c

-- below 32 there is a signal more
one_more : (n : ℕ) → n < 32 → 32 - n ≡ suc (32 - suc n)
one_more n h = omega arith

module _ (x : Scheduler) (c n : ℕ) where
  -- one left, so the broadcast goes on
  pub broadcast_on : n < 32 → ((signal_model x c).left ≡ 0 → ⊥) → on_from n x c ≡ on_from (n + 1) (signal_model x c).scheduler c
  unfolding broadcast_model
  broadcast_on h one = rw (add-one n, one_more n h, ne_eqb _ _ one)

  -- none left, so the broadcast ends
  pub broadcast_none : n < 32 → (signal_model x c).left ≡ 0 → on_from n x c ≡ record { scheduler = x; left = n }
  unfolding broadcast_model
  broadcast_none h none = rw (one_more n h, eq-eqb _ _ none)

  -- 32 have left, so the broadcast ends
  pub broadcast_all : 32 ≤ n → on_from n x c ≡ record { scheduler = x; left = n }
  unfolding broadcast_model
  broadcast_all h =
      let e : 32 - n ≡ 0 = omega arith in
      rw e
