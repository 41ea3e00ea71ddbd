-- The largest of what a function gives at the numbers below n, and the first thread that runs, as chains over a range find them.
-- Assumes nothing.
use Prim.Native.Nat.{ℕ, zero, suc, ◌+◌, max}
use mathlib.Core.Path.{◌≡◌, refl, ap, ◌∙◌}
use mathlib.Core.Bool.{Bool, true, false, cond}
use mathlib.Core.List.{List, [], ◌∷◌, map}
use native.Mathlib.Omega.{arith}
use Rattle.std.specs.List.{fold, reduce, find, range_with_len}
use Rattle.std.specs.Option.{unwrap_or}
use Rattle.std.specs.declared.option.Option.{Option}
use Rattle.std.specs.declared.option.Option.TheVariants.{Some}
use Rattle.laws.specs.Lists.{tabulate}
use Rattle.rules.specs.State.{Thread, running, same}
use Rattle.rules.specs.Page.{runner_from}
use Rattle.sound_standing.specs.Standing.{highest}
use Rattle.sound_standing.proofs.Tests.{highest_first_lem}

-- the largest from a on, with x
largest_from : (n a x : ℕ) (f g : ℕ → ℕ) → ((i : ℕ) → f (i + a) ≡ g i) → fold max x (map f (range_with_len a n)) ≡ max x (highest n g)
largest_from zero a x f g h = unfold highest in omega arith
largest_from (suc n) a x f g h =
    let first : f a ≡ g 0 = ap f (omega arith) ∙ h 0 in
    largest_from n (a + 1) (max x (f a)) f (λ i. g (suc i)) (λ i. ap f (omega arith) ∙ h (suc i)) ∙ omega (arith, highest_first_lem n g)

-- the order in which two are compared
fold_swapped : (x : ℕ) (l : List ℕ) → fold (λ best y. max y best) x l ≡ fold max x l
fold_swapped x [] = refl
fold_swapped x (y ∷ l) = ap (λ z. fold (λ best y. max y best) z l) (omega arith) ∙ fold_swapped (max x y) l

-- the largest of them, or 0
pub largest_lem : (n : ℕ) (f : ℕ → ℕ) → unwrap_or (reduce max (map f (range_with_len 0 n))) 0 ≡ highest n f
largest_lem zero f = unfold highest in refl
largest_lem (suc n) f = largest_from n 1 (f 0) f (λ i. f (suc i)) (λ i. ap f (omega arith)) ∙ omega (arith, highest_first_lem n f)

-- the largest of them and 0
pub largest_above_0 : (n : ℕ) (f : ℕ → ℕ) → fold (λ best x. max x best) 0 (map f (range_with_len 0 n)) ≡ highest n f
largest_above_0 n f = fold_swapped 0 (map f (range_with_len 0 n)) ∙ largest_from n 0 0 f f (λ i. ap f (omega arith)) ∙ omega arith

-- one turn of the search
turn : (b : Bool) (a : ℕ) (o : Option ℕ) (r : ℕ → ℕ) → unwrap_or o 255 ≡ r (a + 1) → unwrap_or (cond b (Some a) o) 255 ≡ cond b a (r (suc a))
turn true a o r e = refl
turn false a o r e = e ∙ ap r (omega arith)

-- the first that passes, where a thread passes if it runs
pub runner_found : (n a : ℕ) (test : ℕ → Bool) (g : ℕ → Thread) → ((i : ℕ) → test (i + a) ≡ same (g i).stands running)
    → unwrap_or (find test (range_with_len a n)) 255 ≡ runner_from a (tabulate n g)
unfolding tabulate runner_from
runner_found zero a test g h = refl
runner_found (suc n) a test g h =
    let first : test a ≡ same (g 0).stands running = ap test (omega arith) ∙ h 0 in
    turn (test a) a _ (λ i. runner_from i (tabulate n (λ j. g (suc j)))) (runner_found n (a + 1) test (λ i. g (suc i)) (λ i. ap test (omega arith) ∙ h (suc i)))
    ∙ ap (λ b. cond b a (runner_from (suc a) (tabulate n (λ j. g (suc j))))) first
