-- Laws on lists that several crates cite: reading and storing by index, tabulating, how often a number stands in a list
-- and in a list of lists, and a list of lists laid end to end.
-- Assumes nothing.
use Prim.Native.Nat.{ℕ, zero, suc, ◌+◌, ◌*◌, ◌≤◌, ◌<◌}
use mathlib.Core.Path.{◌≡◌, refl, sym, ap, ap₂, ◌∙◌}
use mathlib.Core.Logic.{◌≢◌}
use mathlib.Core.Bool.{true, true≢false}
use mathlib.Core.List.{List, [], ◌∷◌, ◌++◌, map, flatten}
use native.Mathlib.Nat.{not-suc-le-zero, le_of_suc-le-suc, mul-zero, mul-suc, mul-le-mul_left, zero-add}
use native.Mathlib.Omega.{arith}
use lib.ListN.{length, get_or, set, replicate, length-append, length-map, get_or-append}
use lib.Seq.{get_or-append-add, set-append_left}
use lib.Dec.{eqb, ltb}
use borrow.Author.Tests.{eq-eqb, ne_eqb, eqb-true, eqb-false, lt-ltb, le-ltb, ltb-true, ltb-false}
use Rattle.laws.specs.Lists.{tabulate}
use Rattle.laws.specs.Counting.{at, last_or, occupied, bit, one, count, counts, Wide}
use Rattle.laws.proofs.Bools.{by_cases}

-- ---- tests on numbers, with what each answer tells

-- two numbers are one or differ
pub by_equal : {X : Type 0} (a b : ℕ) → (a ≡ b → X) → (a ≢ b → X) → X
by_equal a b y n = by_cases (eqb a b) (λ e. y (eqb-true a b e)) (λ e. n (eqb-false a b e))

-- a number is below another or not
pub by_below : {X : Type 0} (a b : ℕ) → (a < b → X) → (b ≤ a → X) → X
by_below a b y n = by_cases (ltb a b) (λ e. y (ltb-true a b e)) (λ e. n (ltb-false a b e))

-- ---- lists of anything

module _ {A : Type 0} where
  -- the last of a list with one more at the back is that one
  pub last_back : (d x : A) (l : List A) → last_or d (l ++ (x ∷ [])) ≡ x
  last_back d x [] = refl
  last_back d x (y ∷ l) = last_back y x l

  -- within the list it does not matter what is read past its end
  pub get_d_any : (l : List A) (i : ℕ) (d e : A) → i < length l → get_or l i d ≡ get_or l i e
  get_d_any [] i d e h = absurd (not-suc-le-zero h)
  get_d_any (x ∷ l) zero d e h = refl
  get_d_any (x ∷ l) (suc i) d e h = get_d_any l i d e (le_of_suc-le-suc h)

  -- a store past the first of two lists is a store in the second
  pub set_append_add : (xs ys : List A) (i : ℕ) (a : A) → set (xs ++ ys) (length xs + i) a ≡ xs ++ set ys i a
  set_append_add [] ys i a = rw zero-add
  set_append_add (x ∷ xs) ys i a =
      let e : suc (length xs) + i ≡ suc (length xs + i) = omega arith in
      rw e (ap (λ l. x ∷ l) (set_append_add xs ys i a))

-- how long a list is, from how long the list of a function of each is
pub length_mapped : (A B : Type 0) (f : A → B) (l : List A) (n : ℕ) → length (map f l) ≡ n → length l ≡ n
length_mapped A B f l n p = sym (length-map l f) ∙ p

-- a store, then a function of each, is the function of each, then a store
pub map_set : {A B : Type 0} (f : A → B) (l : List A) (i : ℕ) (a : A) → map f (set l i a) ≡ set (map f l) i (f a)
map_set f [] i a = refl
map_set f (x ∷ l) zero a = refl
map_set f (x ∷ l) (suc i) a = ap (λ m. f x ∷ m) (map_set f l i a)

-- ---- a list by its entries

module _ {A : Type 0} where
  -- n entries
  pub length_tabulate : (n : ℕ) (f : ℕ → A) → length (tabulate n f) ≡ n
  unfolding tabulate
  length_tabulate zero f = refl
  length_tabulate (suc n) f = ap suc (length_tabulate n (λ i. f (suc i)))

  -- entry i is f i
  pub get_d_tabulate : (n : ℕ) (f : ℕ → A) (i : ℕ) (d : A) → i < n → get_or (tabulate n f) i d ≡ f i
  unfolding tabulate
  get_d_tabulate zero f i d h = absurd (not-suc-le-zero h)
  get_d_tabulate (suc n) f zero d h = refl
  get_d_tabulate (suc n) f (suc i) d h = get_d_tabulate n (λ j. f (suc j)) i d (le_of_suc-le-suc h)

  -- the same entries, the same list
  pub tabulate_same : (n : ℕ) (f g : ℕ → A) → ((i : ℕ) → f i ≡ g i) → tabulate n f ≡ tabulate n g
  unfolding tabulate
  tabulate_same zero f g h = refl
  tabulate_same (suc n) f g h = ap₂ (λ x l. x ∷ l) (h zero) (tabulate_same n (λ i. f (suc i)) (λ i. g (suc i)) (λ i. h (suc i)))

  -- the same entries below the length, the same list
  pub tabulate_below : (n : ℕ) (f g : ℕ → A) → ((i : ℕ) → i < n → f i ≡ g i) → tabulate n f ≡ tabulate n g
  unfolding tabulate
  tabulate_below zero f g h = refl
  tabulate_below (suc n) f g h = ap₂ (λ x l. x ∷ l) (h zero (omega arith)) (tabulate_below n (λ i. f (suc i)) (λ i. g (suc i)) (λ i l. h (suc i) (omega arith)))

  -- a store makes the list of g of that of f where g differs from f there alone
  pub set_tabulate : (n : ℕ) (f g : ℕ → A) (v : ℕ) → ((u : ℕ) → u ≢ v → f u ≡ g u) → set (tabulate n f) v (g v) ≡ tabulate n g
  unfolding tabulate
  set_tabulate zero f g v h = refl
  set_tabulate (suc n) f g zero h =
      ap (λ l. g zero ∷ l) (tabulate_same n (λ i. f (suc i)) (λ i. g (suc i)) (λ i. h (suc i) (omega arith)))
  set_tabulate (suc n) f g (suc v) h =
      ap₂ (λ x l. x ∷ l) (h zero (omega arith)) (set_tabulate n (λ i. f (suc i)) (λ i. g (suc i)) v (λ u k. h (suc u) (omega arith)))

  -- the same below the length
  pub set_tabulate_below : (n : ℕ) (f g : ℕ → A) (v : ℕ) (a : A) → v < n → a ≡ g v → ((u : ℕ) → u < n → (u ≡ v → ⊥) → f u ≡ g u) → set (tabulate n f) v a ≡ tabulate n g
  unfolding tabulate
  set_tabulate_below zero f g v a h e o = absurd (not-suc-le-zero h)
  set_tabulate_below (suc n) f g zero a h e o =
      ap₂ (λ x l. x ∷ l) e (tabulate_below n (λ i. f (suc i)) (λ i. g (suc i)) (λ i l. o (suc i) (omega arith) (λ z. omega arith)))
  set_tabulate_below (suc n) f g (suc v) a h e o =
      ap₂ (λ x l. x ∷ l) (o zero (omega arith) (λ z. omega arith)) (set_tabulate_below n (λ i. f (suc i)) (λ i. g (suc i)) v a (le_of_suc-le-suc h) e (λ u l k. o (suc u) (omega arith) (λ z. k (omega arith))))

  -- one value at each place
  pub tabulate_one : (n : ℕ) (a : A) → tabulate n (λ i. a) ≡ replicate n a
  unfolding tabulate
  tabulate_one zero a = refl
  tabulate_one (suc n) a = ap (λ l. a ∷ l) (tabulate_one n a)

-- ---- how often a number stands in a list

-- a number counts once for itself
pub one_same : (t : ℕ) → one t t ≡ 1
one_same t = rw (eq-eqb t t refl)

-- and not for another
pub one_other : (t x : ℕ) → t ≢ x → one t x ≡ 0
one_other t x h = rw (ne_eqb t x h)

-- two lists, one behind the other, have what both have
pub count_append : (t : ℕ) (xs ys : List ℕ) → count t (xs ++ ys) ≡ count t xs + count t ys
count_append t [] ys = omega arith
count_append t (x ∷ xs) ys = omega (arith, count_append t xs ys)

-- the same of lists of lists
pub counts_append : (t : ℕ) (ls ms : List (List ℕ)) → counts t (ls ++ ms) ≡ counts t ls + counts t ms
counts_append t [] ms = omega arith
counts_append t (l ∷ ls) ms = omega (arith, counts_append t ls ms)

-- with another list at s the count of t changes by what the two lists have
pub counts_set : (t : ℕ) (ls : List (List ℕ)) (s : ℕ) (l : List ℕ) → s < length ls
    → counts t (set ls s l) + count t (at ls s) ≡ counts t ls + count t l
counts_set t [] s l h = absurd (not-suc-le-zero h)
counts_set t (m ∷ ls) zero l h = omega arith
counts_set t (m ∷ ls) (suc s) l h = omega (arith, counts_set t ls s l (le_of_suc-le-suc h))

-- no list has more than all
pub count_at : (t : ℕ) (ls : List (List ℕ)) (s : ℕ) → count t (at ls s) ≤ counts t ls
count_at t [] s = omega arith
count_at t (l ∷ ls) zero = omega arith
count_at t (l ∷ ls) (suc s) = omega (arith, count_at t ls s)

-- what is counted stands in one of the lists
pub count_where : (t : ℕ) (ls : List (List ℕ)) → 0 < counts t ls → (s : ℕ) × (s < length ls) × (0 < count t (at ls s))
count_where t [] h = absurd (not-suc-le-zero h)
count_where t (l ∷ ls) h =
    by_below 0 (count t l) (λ k. (zero, omega arith, k))
    (λ k. let w = count_where t ls (omega arith) in (suc w.0, omega (arith, w.1), w.2))

-- so does the last
pub last_in : (d : ℕ) (l : List ℕ) → occupied l ≡ true → 0 < count (last_or d l) l
last_in d [] h = absurd (true≢false (sym h))
last_in d (x ∷ l) h = go x l
  where
    go : (x : ℕ) (l : List ℕ) → 0 < count (last_or x l) (x ∷ l)
    go x [] = omega (arith, one_same x)
    go x (y ∷ l) = omega (arith, go y l)

-- ---- n places hold at most n numbers

-- how many entries of a list are below n
below : ℕ → List ℕ → ℕ
below zero l = 0
below (suc n) l = count n l + below n l

-- none in the empty list
below_nil : (n : ℕ) → below n [] ≡ 0
unfolding below
below_nil zero = refl
below_nil (suc n) = omega (arith, below_nil n)

-- one more with each entry that is below n
below_cons : (n x : ℕ) (l : List ℕ) → below n (x ∷ l) ≡ bit (ltb x n) + below n l
unfolding below
below_cons zero x l = rw (le-ltb x 0 (omega arith))
below_cons (suc n) x l =
    by_equal n x
    (λ e. rw (eq-eqb n x e, lt-ltb x (suc n) (omega arith))
    (omega (arith, below_cons n x l, ap bit (le-ltb x n (omega arith)))))
    (λ k. by_below x n
    (λ b. rw (ne_eqb n x k, lt-ltb x (suc n) (omega arith)) (omega (arith, below_cons n x l, ap bit (lt-ltb x n b))))
    (λ b. rw (ne_eqb n x k, le-ltb x (suc n) (omega arith)) (omega (arith, below_cons n x l, ap bit (le-ltb x n b)))))

-- all entries where all are below n
below_all : (n : ℕ) (l : List ℕ) → ((u : ℕ) → n ≤ u → count u l ≡ 0) → length l ≡ below n l
below_all n [] h = sym (below_nil n)
below_all n (x ∷ l) h =
    by_below x n
    (λ b. omega (arith, below_all n l (λ u k. omega (arith, h u k)), below_cons n x l, ap bit (lt-ltb x n b)))
    (λ b. absurd (omega (arith, h x b, one_same x)))

-- at most n where each stands there at most once
below_once : (n : ℕ) (l : List ℕ) → ((u : ℕ) → count u l ≤ 1) → below n l ≤ n
unfolding below
below_once zero l h = omega arith
below_once (suc n) l h = omega (arith, h n, below_once n l h)

-- a list of numbers below n, each at most once, has at most n entries
pub pigeonhole : (n : ℕ) (l : List ℕ) → ((u : ℕ) → count u l ≤ 1) → ((u : ℕ) → n ≤ u → count u l ≡ 0) → length l ≤ n
pigeonhole n l once low = omega (arith, below_all n l low, below_once n l once)

-- ---- lists laid end to end

-- one of several lists of lists has no more than all
pub counts_part : (t : ℕ) (xss : List (List (List ℕ))) (i : ℕ) → counts t (at xss i) ≤ counts t (flatten xss)
unfolding flatten
counts_part t [] i = omega arith
counts_part t (x ∷ xss) zero = omega (arith, counts_append t x (flatten xss))
counts_part t (x ∷ xss) (suc i) = omega (arith, counts_append t x (flatten xss), counts_part t xss i)

module _ {A : Type 0} (w : ℕ) where
  -- so has each of the others
  pub wide_rest : (x : List A) (xss : List (List A)) → Wide w (x ∷ xss) → Wide w xss
  wide_rest x xss h i k = h (suc i) (omega arith)

  -- w entries for each list
  pub length_flatten : (xss : List (List A)) → Wide w xss → length (flatten xss) ≡ w * length xss
  unfolding flatten
  length_flatten [] h = sym (mul-zero w)
  length_flatten (x ∷ xss) h =
      omega (arith, length-append x (flatten xss), h 0 (omega arith), length_flatten xss (wide_rest x xss h), mul-suc w (length xss))

  -- entry p of list i stands within all
  pub below_flatten : (xss : List (List A)) (i p : ℕ) → Wide w xss → i < length xss → p < w → w * i + p < length (flatten xss)
  below_flatten xss i p h k b = omega (arith, length_flatten xss h, mul-suc w i, mul-le-mul_left w k)

  -- where entry p of list i + 1 stands
  seam : (x : List A) (i p : ℕ) → length x ≡ w → w * suc i + p ≡ length x + (w * i + p)
  seam x i p e = omega (arith, mul-suc w i)

  -- entry p of list i stands at w * i + p
  pub get_or_flatten : (xss : List (List A)) (i p : ℕ) (d : A) → Wide w xss → p < w → get_or (flatten xss) (w * i + p) d ≡ get_or (at xss i) p d
  unfolding flatten
  get_or_flatten [] i p d h k = refl
  get_or_flatten (x ∷ xss) zero p d h k = rw (mul-zero, zero-add) (get_or-append x (flatten xss) d p (omega (arith, h 0 (omega arith))))
  get_or_flatten (x ∷ xss) (suc i) p d h k =
      rw (seam x i p (h 0 (omega arith))) (get_or-append-add x (flatten xss) (w * i + p) d ∙ get_or_flatten xss i p d (wide_rest x xss h) k)

  -- a store of entry p in list i is a store at w * i + p
  pub flatten_set : (xss : List (List A)) (i p : ℕ) (a : A) → Wide w xss → p < w
      → flatten (set xss i (set (at xss i) p a)) ≡ set (flatten xss) (w * i + p) a
  unfolding flatten
  flatten_set [] i p a h k = refl
  flatten_set (x ∷ xss) zero p a h k =
      rw (mul-zero, zero-add) (sym (set-append_left x (flatten xss) p a (omega (arith, h 0 (omega arith)))))
  flatten_set (x ∷ xss) (suc i) p a h k =
      rw (seam x i p (h 0 (omega arith)))
      (ap (λ l. x ++ l) (flatten_set xss i p a (wide_rest x xss h) k) ∙ sym (set_append_add x (flatten xss) (w * i + p) a))
