-- Laws on a test at each number below n, and on tests of each row of a table.
-- Assumes nothing.
use Prim.Native.Nat.{ℕ, zero, suc, ◌+◌, ◌<◌, max}
use mathlib.Core.Path.{◌≡◌, refl, sym, ap, ap₂, ◌∙◌}
use mathlib.Core.Bool.{Bool, true, false, cond, not, ◌&&◌}
use mathlib.Core.List.{List, [], ◌∷◌, map}
use native.Mathlib.Nat.{zero-add}
use native.Mathlib.Omega.{arith}
use lib.Dec.{eqb}
use borrow.Author.Tests.{ne_eqb}
use Rattle.laws.specs.Lists.{tabulate}
use Rattle.rules.specs.State.{Mutex, highest_ceiling, owned}
use Rattle.rules.specs.Sound.{each}
use Rattle.rules.specs.Page.{each_row}
use Rattle.sound_standing.specs.Standing.{highest}

-- the same test below n
pub each_same : (n : ℕ) (f g : ℕ → Bool) → ((i : ℕ) → i < n → f i ≡ g i) → each n f ≡ each n g
unfolding each
each_same zero f g h = refl
each_same (suc n) f g h = ap₂ ◌&&◌ (h n (omega arith)) (each_same n f g (λ i k. h i (omega arith)))

-- a function of each row of a table
pub map_tabulate : {A B : Type 0} (f : A → B) (n : ℕ) (g : ℕ → A) → map f (tabulate n g) ≡ tabulate n (λ i. f (g i))
unfolding tabulate
map_tabulate f zero g = refl
map_tabulate f (suc n) g = ap (λ l. f (g 0) ∷ l) (map_tabulate f n (λ i. g (suc i)))

-- the largest, with the first number apart
pub highest_first_lem : (n : ℕ) (f : ℕ → ℕ) → highest (suc n) f ≡ max (f 0) (highest n (λ i. f (suc i)))
unfolding highest
highest_first_lem zero f = refl
highest_first_lem (suc n) f = omega (arith, highest_first_lem n f)

-- the largest ceiling in a table is the largest at a number
pub ceiling_highest : (n : ℕ) (g : ℕ → Mutex) (t : ℕ) → highest_ceiling (tabulate n g) t ≡ highest n (λ i. cond (eqb (g i).owner t) (g i).ceiling 0)
unfolding highest_ceiling tabulate
ceiling_highest zero g t = unfold highest in refl
ceiling_highest (suc n) g t =
    ap (max (cond (eqb (g 0).owner t) (g 0).ceiling 0)) (ceiling_highest n (λ i. g (suc i)) t)
    ∙ sym (highest_first_lem n (λ i. cond (eqb (g i).owner t) (g i).ceiling 0))

-- thread t owns nothing where it is the owner of no row
pub owned_none : (l : List Mutex) (t : ℕ) → eqb (owned l t) 0 ≡ each_row (λ x. not (eqb x.owner t)) l
unfolding owned each_row
owned_none [] t = refl
owned_none (x ∷ l) t = go (eqb x.owner t) (owned_none l t)
  where
    go : (b : Bool) → eqb (owned l t) 0 ≡ each_row (λ y. not (eqb y.owner t)) l → eqb (cond b 1 0 + owned l t) 0 ≡ (not b && each_row (λ y. not (eqb y.owner t)) l)
    go true e = ne_eqb (1 + owned l t) 0 (λ z. omega arith)
    go false e = rw zero-add e
