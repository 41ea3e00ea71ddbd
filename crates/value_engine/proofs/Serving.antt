-- One timer of those that a tick serves, and the two ends: none is left, or 32 are served.
-- Assumes nothing.
use Prim.Native.Nat.{ℕ, suc, ◌+◌, ◌-◌, ◌<◌, ◌≤◌}
use mathlib.Core.Path.{◌≡◌}
use mathlib.Core.List.{List}
use native.Mathlib.Numerals.{add-one}
use native.Mathlib.Omega.{arith}
use borrow.Author.Tests.{le-leb, lt-leb}
use Rattle.wheel.specs.Promise.{first, rest}
use Rattle.value_engine.specs.declared.Engine.{Engine}
use Rattle.value_engine.specs.declared.Effect.{Effect}
use Rattle.value_engine.specs.Engines.{serve_model, serve_all_model}

-- what serving comes to from where n are served
abbrev pub on_from : ℕ → Engine → List ℕ → Effect
on_from n x ids = serve_all_model (32 - n) n x ids

-- below 32 there is a timer more
one_more : (n : ℕ) → n < 32 → 32 - n ≡ suc (32 - suc n)
one_more n h = omega arith

module _ (x : Engine) (ids : List ℕ) (n : ℕ) where
  -- one is left, so serving goes on
  pub serve_on : n < 32 → first ids < 32 → on_from n x ids ≡ on_from (n + 1) (serve_model x (first ids)) (rest ids)
  unfolding serve_all_model
  serve_on h one = rw (add-one n, one_more n h, lt-leb _ _ one)

  -- none is left, so serving ends
  pub serve_none : n < 32 → 32 ≤ first ids → on_from n x ids ≡ record { engine = x; given = n }
  unfolding serve_all_model
  serve_none h none = rw (one_more n h, le-leb _ _ none)

  -- 32 are served, so serving ends
  pub serve_full : 32 ≤ n → on_from n x ids ≡ record { engine = x; given = n }
  unfolding serve_all_model
  serve_full h =
      let e : 32 - n ≡ 0 = omega arith in
      rw e
