-- The test of a timer's row, for a stopped timer and for a running one.
-- Assumes nothing.
use Prim.Native.Nat.{ℕ, ◌+◌, ◌-◌, ◌<◌, ◌≤◌}
use mathlib.Core.Path.{◌≡◌, refl, sym, ap, ◌∙◌}
use mathlib.Core.Bool.{Bool, true, false, cond, not, ◌&&◌}
use native.Mathlib.Omega.{arith}
use lib.Dec.{eqb, ltb, leb}
use borrow.Author.Tests.{eq-eqb, ne_eqb, lt-ltb, le-ltb, leb-true, leb-false, lt-leb, le-leb}
use Rattle.laws.proofs.Bools.{by_cases, and_false}
use Rattle.units.specs.Units.{outside}
use Rattle.rules.specs.State.{one_shot, periodic}
use Rattle.rules.specs.Effects.{goes}
use Rattle.rules.specs.Sound.{most_left}
use Rattle.rules.specs.Page.{timer_state_of}
use Rattle.page.specs.declared.TimerRow.{TimerRow}
use Rattle.sound_objects.specs.Objects.{ticks_fit, timer_fits}

-- a timer whose state is 0 is stopped
pub timer_stopped_lem : (n : ℕ) (row : TimerRow) → row.state ≡ 0
    → timer_fits n row ≡ (eqb row.condition 255 && eqb row.length.0 0 && eqb row.left.0 0)
unfolding timer_fits timer_state_of
timer_stopped_lem n row e = rw (eq-eqb _ _ e)

-- the tests of a running one, the first apart
apart : (c n l m : Bool) → (c && n && l && m) ≡ (c && (n && l && m))
apart true n l m = refl
apart false n l m = refl

-- a running timer has an existing condition variable and its ticks fit
pub timer_runs : (n : ℕ) (row : TimerRow) → (row.state ≡ 0 → ⊥)
    → timer_fits n row ≡ (ltb row.condition n && ticks_fit (eqb row.state 1) row.length.0 row.left.0)
unfolding timer_fits ticks_fit timer_state_of
timer_runs n row some = rw (ne_eqb _ _ some) (go (eqb row.state 1))
  where
    go : (b : Bool)
        → cond (goes (cond b one_shot periodic))
        (ltb row.condition n && not (outside 1 65535 row.length.0) && not (outside 1 65535 row.left.0) && leb row.left.0 (most_left (cond b one_shot periodic) row.length.0))
        (eqb row.condition 255 && eqb row.length.0 0 && eqb row.left.0 0)
        ≡ (ltb row.condition n && (not (outside 1 65535 row.length.0) && not (outside 1 65535 row.left.0) && leb row.left.0 (cond b row.length.0 (row.length.0 + 1))))
    go true = apart (ltb row.condition n) _ _ _
    go false = apart (ltb row.condition n) _ _ _

-- ---- the ticks of a running timer, each at most 65,535

module _ (once : Bool) (n left : ℕ) where
  pub no_length : n < 1 → false ≡ ticks_fit once n left
  unfolding ticks_fit
  no_length none = rw (lt-ltb n 1 none)

  pub none_left : left < 1 → false ≡ ticks_fit once n left
  unfolding ticks_fit
  none_left none = rw (lt-ltb left 1 none, and_false (not (outside 1 65535 n)))

  some_left : 1 ≤ n → n ≤ 65535 → 1 ≤ left → left ≤ 65535 → leb left (cond once n (n + 1)) ≡ ticks_fit once n left
  unfolding ticks_fit
  some_left long fits some short = rw (le-ltb n 1 long, le-ltb 65535 n fits, le-ltb left 1 some, le-ltb 65535 left short)

  -- one that expires once
  pub left_once : once ≡ true → 1 ≤ n → n ≤ 65535 → 1 ≤ left → left ≤ 65535 → leb left n ≡ ticks_fit once n left
  left_once q long fits some short = ap (λ b. leb left (cond b n (n + 1))) (sym q) ∙ some_left long fits some short

  -- one that expires again and again
  pub left_again : once ≡ false → 1 ≤ n → n ≤ 65535 → 1 ≤ left → left ≤ 65535 → leb (left - 1) n ≡ ticks_fit once n left
  left_again q long fits some short = one_more ∙ ap (λ b. leb left (cond b n (n + 1))) (sym q) ∙ some_left long fits some short
    where
      one_more : leb (left - 1) n ≡ leb left (n + 1)
      one_more = by_cases (leb left (n + 1))
          (λ y. le-leb (left - 1) n (omega (arith, leb-true left (n + 1) y)) ∙ sym y)
          (λ y. lt-leb (left - 1) n (omega (arith, leb-false left (n + 1) y)) ∙ sym y)
