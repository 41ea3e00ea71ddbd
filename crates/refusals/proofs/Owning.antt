-- The count of the mutexes that a thread owns: the library's count of what passes a test, and one step of a count by hand, and its end.
-- Assumes nothing.
use Prim.Native.Nat.{ℕ, ◌+◌, ◌<◌, ◌≤◌}
use mathlib.Core.Path.{◌≡◌, refl, ap, ◌∙◌}
use mathlib.Core.Bool.{Bool, true, false, cond}
use mathlib.Core.List.{List, [], ◌∷◌}
use native.Mathlib.Numerals.{add-one}
use native.Mathlib.Omega.{arith}
use lib.ListN.{length, get_or, drop, drop_of_length-le}
use lib.Seq.{drop-cons}
use lib.Dec.{eqb}
use Rattle.std.specs.Prelude.{◌==◌, count_by}
use Rattle.std.proofs.lemmas.List.Sums.{sum_by-cons}
use Rattle.value_effects.specs.declared.Mutex.{Mutex}
use Rattle.value_effects.specs.Effects.{no_mutex}
use Rattle.refusals.specs.Verdicts.{owned_one, owned_in}

one_at_most : (b : Bool) → cond b 1 0 ≤ 1
one_at_most true = omega arith
one_at_most false = omega arith

-- a mutex counts at most once
pub owned_one_lem : (m : Mutex) (t : ℕ) → owned_one m t ≤ 1
unfolding owned_one
owned_one_lem m t = one_at_most (eqb m.owner t)

-- the mutex at i goes into the count so far
pub count_on : (l : List Mutex) (t owned i : ℕ) → i < length l
    → owned + owned_in (drop i l) t ≡ owned + owned_one (get_or l i no_mutex) t + owned_in (drop (i + 1) l) t
unfolding owned_in
count_on l t owned i h = rw (add-one i, drop-cons l i no_mutex h) (omega arith)

-- past the last mutex the count so far is the whole
pub count_done : (l : List Mutex) (t owned i : ℕ) → length l ≤ i → owned + owned_in (drop i l) t ≡ owned
unfolding owned_in
count_done l t owned i h = rw (drop_of_length-le l h) (omega arith)

-- what passes the test of the owner is the count
pub counted : (l : List Mutex) (t : ℕ) → count_by (λ (row : Mutex). row.owner == t) l ≡ owned_in l t
unfolding owned_one owned_in
counted [] t = refl
counted (m ∷ l) t = sum_by-cons (λ (row : Mutex). cond (row.owner == t) 1 0) m l ∙ ap (λ n. cond (eqb m.owner t) 1 0 + n) (counted l t)
