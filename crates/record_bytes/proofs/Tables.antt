-- A table of rows of one width, written and read; and numbers of 16 bits, written and read.
-- Assumes nothing.
use Prim.Native.Nat.{ℕ, zero, suc, ◌+◌, ◌*◌, ◌/◌, ◌%◌, ◌<◌, ◌≤◌}
use mathlib.Core.Path.{◌≡◌, refl, sym, ap, ap₂, ◌∙◌}
use mathlib.Core.Bool.{Bool, true}
use mathlib.Core.List.{List, [], ◌∷◌, ◌++◌, map, flatten, append_assoc}
use native.Mathlib.Omega.{arith}
use native.Mathlib.Nat.{mul-zero, mul-suc}
use lib.ListN.{length, get_or, take, drop, length-append, length-drop, get_or-eq_default}
use lib.Seq.{take_at, drop_at, take-add, get_or-drop, get_or-take, length-take-le}
use Rattle.laws.proofs.Bools.{and_left, and_right}
use Rattle.laws.proofs.Lists.{by_below}
use Rattle.rules.specs.Page.{each_row}
use Rattle.record_bytes.specs.Record.{AreBytes, word, word_at, cut_rows}

-- ---- numbers of 16 bits

-- what is written is read
pub word_read : (n : ℕ) → n % 256 + 256 * (n / 256) ≡ n
word_read n = omega arith

-- what is read is written
pub word_written : (bytes : List ℕ) (i : ℕ) → AreBytes bytes → word (word_at bytes i) ≡ get_or bytes i 0 ∷ get_or bytes (suc i) 0 ∷ []
word_written bytes i b = ap₂ (λ x y. x ∷ y ∷ []) (low (get_or bytes i 0) (get_or bytes (suc i) 0) (b i)) (high (get_or bytes i 0) (get_or bytes (suc i) 0) (b i))
  where
    low : (x y : ℕ) → x < 256 → (x + 256 * y) % 256 ≡ x
    low x y h = omega arith

    high : (x y : ℕ) → x < 256 → (x + 256 * y) / 256 ≡ y
    high x y h = omega arith

-- ---- parts of a list of bytes

-- what follows the first n
pub bytes_drop : (n : ℕ) (l : List ℕ) → AreBytes l → AreBytes (drop n l)
bytes_drop n l b i = rw (get_or-drop n l i 0) (b (n + i))

-- the first n
pub bytes_take : (n : ℕ) (l : List ℕ) → n ≤ length l → AreBytes l → AreBytes (take n l)
bytes_take n l h b i = by_below i n
    (λ k. rw (get_or-take n l i 0 k) (b i))
    (λ k. rw (get_or-eq_default (take n l) 0 {n = i} (omega (arith, length-take-le n l h))) (omega arith))

-- ---- tables

-- there are as many rows as asked for
pub length_rows : (width n : ℕ) (l : List ℕ) → length (cut_rows width n l) ≡ n
unfolding cut_rows
length_rows width zero l = refl
length_rows width (suc n) l = ap suc (length_rows width n (drop width l))

module _ {Row : Type 0} (width : ℕ) (to : Row → List ℕ) where
  -- each row is written in as many bytes
  abbrev pub Even : Type 0
  Even = (x : Row) → length (to x) ≡ width

  -- a table's rows are read as they were written, whatever follows
  pub rows_written_lem : Even → (xs : List Row) (others : List ℕ) → cut_rows width (length xs) (flatten (map to xs) ++ others) ≡ map to xs
  unfolding cut_rows flatten
  rows_written_lem even [] others = refl
  rows_written_lem even (x ∷ xs) others =
      let e = append_assoc (to x) (flatten (map to xs)) others in
      let t = flatten (map to xs) ++ others in
      ap₂ (λ r rs. r ∷ rs) (ap (take width) e ∙ take_at (to x) t width (even x))
      (ap (λ l. cut_rows width (length xs) l) (ap (drop width) e ∙ drop_at (to x) t width (even x)) ∙ rows_written_lem even xs others)

  -- its length
  pub length_table : Even → (xs : List Row) → length (flatten (map to xs)) ≡ width * length xs
  unfolding flatten
  length_table even [] = sym (mul-zero width)
  length_table even (x ∷ xs) = omega (arith, length-append (to x) (flatten (map to xs)), even x, length_table even xs, mul-suc width (length xs))

  -- rows that are read are written as they were, where each row is
  pub table_written : (from : List ℕ → Row) (test : List ℕ → Bool)
      → ((row : List ℕ) → length row ≡ width → AreBytes row → test row ≡ true → to (from row) ≡ row)
      → (n : ℕ) (l : List ℕ) → width * n ≤ length l → AreBytes l → each_row test (cut_rows width n l) ≡ true
      → flatten (map to (map from (cut_rows width n l))) ≡ take (width * n) l
  unfolding cut_rows flatten each_row
  table_written from test same zero l h b e = rw (mul-zero width)
  table_written from test same (suc n) l h b e =
      let w : width + width * n ≡ width * suc n = omega (arith, mul-suc width n) in
      let enough : width ≤ length l = omega arith in
      let one = take width l in
      let others = drop width l in
      let first = same one (length-take-le width l enough) (bytes_take width l enough b) (and_left (test one) (each_row test (cut_rows width n others)) e) in
      let rest = table_written from test same n others (omega (arith, length-drop width l)) (bytes_drop width l b) (and_right (test one) (each_row test (cut_rows width n others)) e) in
      ap₂ (λ r rs. r ++ rs) first rest ∙ sym (take-add width (width * n) l) ∙ ap (λ k. take k l) w
