-- A table of which the rows below k are made, filled row after row: how it begins, goes on and ends.
-- Assumes nothing.
use Prim.Native.Nat.{ℕ, ◌+◌, ◌<◌, ◌≤◌}
use mathlib.Core.Path.{◌≡◌, sym, ◌∙◌}
use mathlib.Core.Bool.{cond}
use native.Mathlib.Omega.{arith}
use lib.ListN.{set, replicate}
use lib.Dec.{ltb}
use borrow.Author.Tests.{lt-ltb, le-ltb}
use Rattle.laws.specs.Lists.{tabulate}
use Rattle.laws.specs.Filling.{filled}
use Rattle.laws.proofs.Lists.{by_below, tabulate_same, tabulate_below, set_tabulate_below, tabulate_one}

module _ {A : Type 0} (n : ℕ) (f : ℕ → A) (d : A) where
  -- at first none is
  pub fill_none : replicate n d ≡ filled n f d 0
  unfolding filled
  fill_none = sym (tabulate_same n (λ i. cond (ltb i 0) (f i) d) (λ i. d) (λ i. rw (le-ltb i 0 (omega arith))) ∙ tabulate_one n d)

  -- row k is made
  pub fill_next : (k : ℕ) (a : A) → k < n → a ≡ f k → set (filled n f d k) k a ≡ filled n f d (k + 1)
  unfolding filled
  fill_next k a h e =
      set_tabulate_below n (λ i. cond (ltb i k) (f i) d) (λ i. cond (ltb i (k + 1)) (f i) d) k a h (rw (lt-ltb k (k + 1) (omega arith)) e)
      (λ u l o. by_below u k
      (λ b. rw (lt-ltb u k b, lt-ltb u (k + 1) (omega arith)))
      (λ b. rw (le-ltb u k b, le-ltb u (k + 1) (omega (arith, o)))))

  -- at last all are
  pub fill_all : (k : ℕ) → n ≤ k → filled n f d k ≡ tabulate n f
  unfolding filled
  fill_all k h = tabulate_below n (λ i. cond (ltb i k) (f i) d) f (λ i l. rw (lt-ltb i k (omega arith)))
