-- A table that `array::from_fn` makes by a closure that changes nothing is the table of the function that gives each entry.
-- Assumes nothing.
use Prim.Native.Nat.{ℕ, zero, suc, ◌+◌, ◌<◌}
use mathlib.Core.Path.{◌≡◌, refl, sym, ap, ap₂, subst, ◌∙◌}
use mathlib.Core.List.{List, [], ◌∷◌}
use native.Mathlib.Omega.{arith}
use lib.ListN.{length, get_or}
use Rattle.std.specs.Fn.{Mut, Called}
use Rattle.std.specs.Array.{IsFromFnResult, IsFromFnResultFrom}
use Rattle.laws.specs.Lists.{tabulate}
use Rattle.laws.proofs.Lists.{by_equal}

-- n entries, each what f gives at its index
module _ {A : Type 0} where
  tabulated : (n : ℕ) (f : ℕ → A) (l : List A) (d : A) → length l ≡ n → ((i : ℕ) → i < n → get_or l i d ≡ f i) → l ≡ tabulate n f
  unfolding tabulate
  tabulated zero f [] d e h = refl
  tabulated zero f (x ∷ l) d e h = absurd (omega (arith, e))
  tabulated (suc n) f [] d e h = absurd (omega (arith, e))
  tabulated (suc n) f (x ∷ l) d e h =
      ap₂ (λ x l. x ∷ l) (h zero (omega arith)) (tabulated n (λ i. f (suc i)) l d (omega (arith, e)) (λ i k. h (suc i) (omega (arith, k))))

module _ {F A : Type 0} (g : Mut F (ℕ × Unit {0}) A) (f : F) (l : List A) (n : ℕ) (h : ℕ → A)
    (call : (i : ℕ) (a : A) (k : F) → i < n → Called g f (i, tt) a k → (k ≡ f) × (a ≡ h i)) where
  -- the entries from i on, m of them
  entries : (m i : ℕ) (k : F) → k ≡ f → i + m ≡ n → IsFromFnResultFrom g k l i m → (j : ℕ) (d : A) → i < j + 1 → j < n → get_or l j d ≡ h j
  entries zero i k e o r j d b c = absurd (omega (arith, o, b, c))
  entries (suc m) i k e o (q, a, at, called, rest) j d b c =
      let made = call i a q (omega (arith, o)) (subst (λ x. Called g x (i, tt) a q) e called) in
      by_equal j i (λ u. ap (λ x. get_or l x d) u ∙ at.1 d ∙ made.1 ∙ ap h (sym u)) (λ u. entries m (i + 1) q made.0 (omega (arith, o)) rest j d (omega (arith, u)) c)

-- all of them
pub made : {F A : Type 0} {g : Mut F (ℕ × Unit {0}) A} {f : F} {l : List A} (n : ℕ) (h : ℕ → A)
    → ((i : ℕ) (a : A) (k : F) → i < n → Called g f (i, tt) a k → (k ≡ f) × (a ≡ h i)) → IsFromFnResult g f l n → A → l ≡ tabulate n h
made n h call r d = tabulated n h _ d r.long (λ j c. entries _ _ _ n h call n 0 _ refl (omega arith) r.each j d (omega arith) c)
