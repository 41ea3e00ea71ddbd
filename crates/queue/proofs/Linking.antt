-- How the link of a thread goes with the lists: what follows it in its own list, whatever the others hold; and how a list is found along its links.
-- Assumes nothing.
use Prim.Native.Nat.{ℕ, zero, suc, ◌+◌, ◌<◌, ◌≤◌}
use mathlib.Core.Path.{◌≡◌, refl, ap, ◌∙◌}
use mathlib.Core.Logic.{◌≢◌}
use mathlib.Core.Bool.{Bool, true, false, cond}
use mathlib.Core.List.{List, [], ◌∷◌, ◌++◌}
use native.Mathlib.Nat.{not-suc-le-zero}
use native.Mathlib.Omega.{arith}
use lib.ListN.{length, get_or, set}
use lib.Dec.{eqb}
use borrow.Author.Tests.{eq-eqb, ne_eqb}
use Rattle.laws.specs.Counting.{at, first_or, last_or, bit, one, count, counts}
use Rattle.laws.proofs.Lists.{one_same, count_at, last_in}
use Rattle.queue.specs.Linking.{ahead_model}
use Rattle.queue.specs.Stands.{after, link_of}
use Rattle.queue.proofs.Searches.{ahead_none, ahead_more}

-- ---- one list

-- where t does not stand in the list, what follows it is decided elsewhere
pub after_none : (t : ℕ) (l : List ℕ) (d : ℕ) → count t l ≡ 0 → after t l d ≡ d
after_none t [] d h = refl
after_none t (x ∷ l) d h = go (eqb t x) h (after_none t l d)
  where
    go : (b : Bool) → bit b + count t l ≡ 0 → (count t l ≡ 0 → after t l d ≡ d) → cond b (first_or 255 l) (after t l d) ≡ d
    go true e ih = absurd (omega arith)
    go false e ih = ih (omega arith)

-- where it does, nothing else matters
pub after_some : (t : ℕ) (l : List ℕ) (d e : ℕ) → 0 < count t l → after t l d ≡ after t l e
after_some t [] d e h = absurd (not-suc-le-zero h)
after_some t (x ∷ l) d e h = go (eqb t x) h (after_some t l d e)
  where
    go : (b : Bool) → 0 < bit b + count t l → (0 < count t l → after t l d ≡ after t l e)
        → cond b (first_or 255 l) (after t l d) ≡ cond b (first_or 255 l) (after t l e)
    go true e ih = refl
    go false e ih = ih (omega arith)

-- the first is followed by the first of the rest
pub after_first : (t : ℕ) (l : List ℕ) (d : ℕ) → after t (t ∷ l) d ≡ first_or 255 l
after_first t l d = rw (eq-eqb t t refl)

-- any other by what follows it in the rest
pub after_rest : (u x : ℕ) (l : List ℕ) (d : ℕ) → u ≢ x → after u (x ∷ l) d ≡ after u l d
after_rest u x l d h = rw (ne_eqb u x h)

-- one more at the back: of the others only the last is followed by another one than before
pub after_back_other : (u t x : ℕ) (l : List ℕ) (d : ℕ) → u ≢ t → u ≢ last_or x l → after u (x ∷ l ++ (t ∷ [])) d ≡ after u (x ∷ l) d
after_back_other u t x [] d ht hl = rw (ne_eqb u t ht, ne_eqb u x hl)
after_back_other u t x (y ∷ l) d ht hl = ap (cond (eqb u x) y) (after_back_other u t y l d ht hl)

-- the last of a list is followed by the first of what comes behind the list
pub after_joint : (x : ℕ) (l m : List ℕ) (d : ℕ) → ((u : ℕ) → count u (x ∷ l) ≤ 1) → after (last_or x l) (x ∷ l ++ m) d ≡ first_or 255 m
after_joint x [] m d h = after_first x m d
after_joint x (y ∷ l) m d h =
    after_rest (last_or y l) x (y ∷ l ++ m) d
    (λ e. absurd (omega (arith, h (last_or y l), ap (one (last_or y l)) e, one_same (last_or y l), last_in y (y ∷ l) refl)))
    ∙ after_joint y l m d (λ u. omega (arith, h u))

-- so the last is followed by the new one
pub after_back_last : (t x : ℕ) (l : List ℕ) (d : ℕ) → ((u : ℕ) → count u (x ∷ l) ≤ 1) → after (last_or x l) (x ∷ l ++ (t ∷ [])) d ≡ t
after_back_last t x l d h = after_joint x l (t ∷ []) d h

-- one that stands only behind a list is followed by the first of what comes behind it
pub after_behind : (t : ℕ) (l m : List ℕ) (d : ℕ) → count t l ≡ 0 → after t (l ++ (t ∷ m)) d ≡ first_or 255 m
after_behind t [] m d h = after_first t m d
after_behind t (x ∷ l) m d h =
    after_rest t x (l ++ (t ∷ m)) d (λ e. absurd (omega (arith, ap (one t) e, one_same t)))
    ∙ after_behind t l m d (omega arith)

-- so the new one is followed by none
pub after_back_new : (t : ℕ) (l : List ℕ) (d : ℕ) → count t l ≡ 0 → after t (l ++ (t ∷ [])) d ≡ 255
after_back_new t l d h = after_behind t l [] d h

-- one less behind the last of a list: of the others only that one is followed by another one than before
pub after_skip : (u t x : ℕ) (l m : List ℕ) (d : ℕ) → u ≢ t → u ≢ last_or x l → after u (x ∷ l ++ m) d ≡ after u (x ∷ l ++ (t ∷ m)) d
after_skip u t x [] m d ht hl = rw (ne_eqb u x hl, ne_eqb u t ht)
after_skip u t x (y ∷ l) m d ht hl = ap (cond (eqb u x) y) (after_skip u t y l m d ht hl)

-- ---- the way along the links of one list

-- the one that t follows in a list, 255 if it is the first there or does not stand there
abbrev pub followed : ℕ → List ℕ → ℕ
followed t [] = 255
followed t (x ∷ xs) = cond (eqb (first_or 255 xs) t) x (followed t xs)

-- where t does not stand it is not the first
pub first_other : (t : ℕ) (l : List ℕ) → t < 32 → count t l ≡ 0 → first_or 255 l ≢ t
first_other t [] h k e = absurd (omega arith)
first_other t (x ∷ l) h k e = absurd (omega (arith, ap (one t) e, one_same t))

-- and follows none
pub followed_none : (t : ℕ) (l : List ℕ) → t < 32 → count t l ≡ 0 → followed t l ≡ 255
followed_none t [] h k = refl
followed_none t (x ∷ l) h k = rw (ne_eqb (first_or 255 l) t (first_other t l h (omega arith))) (followed_none t l h (omega arith))

-- behind others it follows the last of them
pub followed_last : (t x : ℕ) (l m : List ℕ) → count t (x ∷ l) ≡ 0 → followed t (x ∷ l ++ (t ∷ m)) ≡ last_or x l
followed_last t x [] m h = rw (eq-eqb t t refl)
followed_last t x (y ∷ l) m h =
    rw (ne_eqb y t (λ e. absurd (omega (arith, ap (one t) e, one_same t)))) (followed_last t y l m (omega arith))

module _ (next : List ℕ) where
  -- each thread of the list is linked to what follows it there
  abbrev pub Chained : List ℕ → Type 0
  Chained l = (u : ℕ) → 0 < count u l → (u < 32) × (get_or next u 0 ≡ after u l 255)

  -- its first is linked to the first of the rest
  pub chained_first : (x : ℕ) (l : List ℕ) → Chained (x ∷ l) → (x < 32) × (get_or next x 0 ≡ first_or 255 l)
  chained_first x l c =
      let k = c x (omega (arith, one_same x)) in
      (k.0, k.1 ∙ after_first x l 255)

  -- and the rest is linked so
  pub chained_rest : (x : ℕ) (l : List ℕ) → ((u : ℕ) → count u (x ∷ l) ≤ 1) → Chained (x ∷ l) → Chained l
  chained_rest x l once c u b =
      let k = c u (omega arith) in
      (k.0, k.1 ∙ after_rest u x l 255 (λ z. absurd (omega (arith, once u, one_same u, ap (one u) z))))

  -- the way along the links finds the one that t follows
  pub way_of : (t : ℕ) (l : List ℕ) (n : ℕ) → length l ≤ n → ((u : ℕ) → count u l ≤ 1) → Chained l → ahead_model next n (first_or 255 l) t ≡ followed t l
  way_of t [] n h once c = ahead_none next t n 255 (omega arith)
  way_of t (x ∷ l) zero h once c = absurd (omega arith)
  way_of t (x ∷ l) (suc n) h once c =
      let k = chained_first x l c in
      ahead_more next t n x k.0 ∙ ap (λ p. cond (eqb p t) x (ahead_model next n p t)) k.1
      ∙ ap (cond (eqb (first_or 255 l) t) x) (way_of t l n (omega arith) (λ u. omega (arith, once u)) (chained_rest x l once c))

-- ---- all lists

-- a thread that stands in no list has no link
pub link_none : (t : ℕ) (ls : List (List ℕ)) → counts t ls ≡ 0 → link_of t ls ≡ 255
link_none t [] h = refl
link_none t (l ∷ ls) h = after_none t l (link_of t ls) (omega arith) ∙ link_none t ls (omega arith)

-- a thread that stands in one list is linked to what follows it there
pub link_at : (t : ℕ) (ls : List (List ℕ)) (s : ℕ) → counts t ls ≤ 1 → 0 < count t (at ls s) → link_of t ls ≡ after t (at ls s) 255
link_at t [] s h k = refl
link_at t (l ∷ ls) zero h k = after_some t l (link_of t ls) 255 k
link_at t (l ∷ ls) (suc s) h k = after_none t l (link_of t ls) (omega (arith, count_at t ls s)) ∙ link_at t ls s (omega arith) k

-- a thread keeps its link where the new list at s has the same behind it as the old one
pub link_set : (t : ℕ) (ls : List (List ℕ)) (s : ℕ) (l : List ℕ) → ((d : ℕ) → after t l d ≡ after t (at ls s) d)
    → link_of t (set ls s l) ≡ link_of t ls
link_set t [] s l h = refl
link_set t (m ∷ ls) zero l h = h (link_of t ls)
link_set t (m ∷ ls) (suc s) l h = ap (after t m) (link_set t ls s l h)
