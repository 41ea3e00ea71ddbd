-- Stores one after the other: what is stored after what was stored, and rows of a table in turn.
-- Assumes nothing.
use Prim.Native.Nat.{ℕ, zero, suc, ◌+◌, ◌-◌, ◌*◌, ◌<◌, ◌≤◌}
use mathlib.Core.Path.{◌≡◌, refl, sym, ap, ap₂, ◌∙◌}
use mathlib.Core.List.{List, [], ◌∷◌, ◌++◌, flatten}
use native.Mathlib.Nat.{add_comm, add_assoc, mul-suc}
use native.Mathlib.Omega.{arith}
use lib.ListN.{length, set, length-append}
use lib.Seq.{sets}
use Rattle.laws.specs.Lists.{tabulate}
use Rattle.laws.proofs.Lists.{tabulate_same}
use Rattle.record_writing.specs.Tables.{table_from}

-- two lists of bytes stored one after the other are stored as one
pub sets_append : (b : List ℕ) (at : ℕ) (xs ys : List ℕ) → sets (sets b at xs) (at + length xs) ys ≡ sets b at (xs ++ ys)
sets_append b at [] ys = let e : at + 0 ≡ at = omega arith in ap (λ k. sets b k ys) e
sets_append b at (x ∷ xs) ys = let e : at + suc (length xs) ≡ suc at + length xs = omega arith in ap (λ k. sets (sets b at (x ∷ xs)) k ys) e ∙ sets_append (set b at x) (suc at) xs ys

-- the same, of buffers that are known by such stores
pub then : (b c d : List ℕ) (at further : ℕ) (xs ys : List ℕ) → c ≡ sets b at xs → d ≡ sets c further ys → further ≡ at + length xs → d ≡ sets b at (xs ++ ys)
then b c d at further xs ys e f g = f ∙ ap₂ (λ x k. sets x k ys) e g ∙ sets_append b at xs ys

-- four bytes stored in turn
pub four : {b₁ b₂ b₃ b₄ : List ℕ} (b : List ℕ) (at x y z w : ℕ) → b₁ ≡ set b at x → b₂ ≡ set b₁ (at + 1) y → b₃ ≡ set b₂ (at + 2) z → b₄ ≡ set b₃ (at + 3) w → b₄ ≡ sets b at (x ∷ y ∷ z ∷ w ∷ [])
four b at x y z w e f g h =
    let one : at + 1 ≡ suc at = omega arith in
    let two : at + 2 ≡ suc (suc at) = omega arith in
    let three : at + 3 ≡ suc (suc (suc at)) = omega arith in
    h ∙ ap₂ (λ (l : List ℕ) k. set l k w) (g ∙ ap₂ (λ (l : List ℕ) k. set l k z) (f ∙ ap₂ (λ (l : List ℕ) k. set l k y) e one) two) three

-- ---- rows of a table in turn

-- no row is left
pub table_none : (row : ℕ → List ℕ) (i : ℕ) → table_from row 0 i ≡ []
unfolding table_from tabulate flatten
table_none row i = refl

-- one row, and those after it
pub table_next : (row : ℕ → List ℕ) (n i : ℕ) → table_from row (suc n) i ≡ row i ++ table_from row n (suc i)
unfolding table_from tabulate flatten
table_next row n i =
    let first : i + 0 ≡ i = omega arith in
    ap₂ (λ x l. x ++ flatten l) (ap row first) (tabulate_same n (λ j. row (i + suc j)) (λ j. row (suc i + j)) (λ j. let e : i + suc j ≡ suc i + j = omega arith in ap row e))

-- rows of one width have that many bytes each
pub length_rows : (row : ℕ → List ℕ) (w : ℕ) → ((i : ℕ) → length (row i) ≡ w) → (n i : ℕ) → length (table_from row n i) ≡ w * n
length_rows row w h zero i = ap length (table_none row i) ∙ omega arith
length_rows row w h (suc n) i = ap length (table_next row n i) ∙ length-append (row i) (table_from row n (suc i)) ∙ ap₂ ◌+◌ (h i) (length_rows row w h n (suc i)) ∙ more w n
  where
    more : (w n : ℕ) → w + w * n ≡ w * suc n
    more w n = sym (mul-suc w n ∙ add_comm (w * n) w)

-- a turn: row i is stored, and the rest then gives what it gave before
pub turn : (row : ℕ → List ℕ) (w : ℕ) → ((i : ℕ) → length (row i) ≡ w) → (b c : List ℕ) (at n i : ℕ) → i < n → c ≡ sets b (at + w * i) (row i)
    → sets c (at + w * (i + 1)) (table_from row (n - (i + 1)) (i + 1)) ≡ sets b (at + w * i) (table_from row (n - i) i)
turn row w h b c at n i l e =
    let next : i + 1 ≡ suc i = omega arith in
    let fewer : n - i ≡ suc (n - suc i) = omega arith in
    ap (λ k. sets c (at + w * k) (table_from row (n - k) k)) next
    ∙ ap₂ (λ x k. sets x k (table_from row (n - suc i) (suc i))) e (further w at i ∙ ap (λ k. at + w * i + k) (sym (h i)))
    ∙ sets_append b (at + w * i) (row i) (table_from row (n - suc i) (suc i))
    ∙ ap (sets b (at + w * i)) (sym (table_next row (n - suc i) i) ∙ ap (λ k. table_from row k i) (sym fewer))
  where
    further : (w at i : ℕ) → at + w * suc i ≡ at + w * i + w
    further w at i = ap (λ k. at + k) (mul-suc w i) ∙ sym (add_assoc at (w * i) w)

-- before the first turn all is left
pub at_first : (row : ℕ → List ℕ) (w : ℕ) (b : List ℕ) (at n : ℕ) → sets b (at + w * 0) (table_from row (n - 0) 0) ≡ sets b at (table_from row n 0)
at_first row w b at n =
    let start : at + w * 0 ≡ at = omega arith in
    let whole : n - 0 ≡ n = omega arith in
    ap₂ (λ k m. sets b k (table_from row m 0)) start whole

-- after the last turn nothing is left
pub at_last : (row : ℕ → List ℕ) (b : List ℕ) (at n i : ℕ) → n ≤ i → sets b at (table_from row (n - i) i) ≡ b
at_last row b at n i h = let none : n - i ≡ 0 = omega arith in ap (λ k. sets b at (table_from row k i)) none ∙ ap (sets b at) (table_none row i)
