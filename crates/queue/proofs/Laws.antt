-- What the operations do to the lists that links and queues stand for, over all slots at once: an arrival or a leave changes the list
-- of its slot so, and no other.
-- Assumes nothing.
use Prim.Native.Nat.{ℕ, ◌+◌, ◌<◌, ◌≤◌}
use mathlib.Core.Path.{◌≡◌, refl, sym, ap, ◌∙◌}
use mathlib.Core.Logic.{◌≢◌}
use mathlib.Core.Bool.{cond}
use mathlib.Core.List.{List, [], ◌∷◌, ◌++◌}
use native.Mathlib.Omega.{arith}
use lib.ListN.{length, get_or, set}
use lib.Seq.{get_or-set_same, set-get_or}
use lib.Dec.{eqb, ltb}
use borrow.Author.Tests.{lt-ltb, eq-eqb, ne_eqb}
use Rattle.laws.specs.Lists.{tabulate}
use Rattle.laws.specs.Counting.{at, first_or, last_or, rest, occupied, one, count, counts}
use Rattle.laws.proofs.Lists.{by_equal, by_below, one_same, one_other, count_append, counts_set, count_at, last_back, last_in, get_d_tabulate, tabulate_same, set_tabulate}
use Rattle.queue.specs.Linking.{linked, back_model, front_model, leave_model}
use Rattle.queue.specs.Stands.{Fresh, ends_of, after, link_of, links_of, linked_of}
use Rattle.queue.proofs.Linking.{after_first, after_rest, after_back_other, after_back_last, after_back_new, link_none, link_at, link_set}

-- the link of a thread is read
pub link_read : (ls : List (List ℕ)) (t : ℕ) → t < 32 → get_or (links_of ls).next t 0 ≡ link_of t ls
unfolding links_of
link_read ls t h = get_d_tabulate 32 (λ u. link_of u ls) t 0 h

-- two entries of a table change
set_two : (n : ℕ) (f g : ℕ → ℕ) (v t : ℕ) → v ≢ t → ((u : ℕ) → u ≢ v → u ≢ t → f u ≡ g u) → set (set (tabulate n f) v (g v)) t (g t) ≡ tabulate n g
set_two n f g v t k h =
    let between : ℕ → ℕ = λ u. cond (eqb u t) (f t) (g u) in
    let at-v : g v ≡ between v = rw (ne_eqb v t k) in
    ap (λ x. set x t (g t)) (ap (set (tabulate n f) v) at-v
    ∙ set_tabulate n f between v (λ u m. by_equal u t (λ y. rw (y, eq-eqb t t refl)) (λ y. rw (ne_eqb u t y) (h u m y))))
    ∙ set_tabulate n between g t (λ u m. rw (ne_eqb u t m))

-- ---- the list l at slot s

module _ (ls : List (List ℕ)) (s : ℕ) (l : List ℕ) (here : at ls s ≡ l) (fresh : Fresh ls) where
  -- a thread of l is below 32
  pub low_at : (u : ℕ) → 0 < count u l → u < 32
  low_at u h =
      by_below u 32 (λ b. b)
      (λ b. absurd (omega (arith, fresh.low u b, count_at u ls s, ap (count u) here)))

  -- and stands there once
  pub once_at : (u : ℕ) → count u l ≤ 1
  once_at u = omega (arith, fresh.once u, count_at u ls s, ap (count u) here)

  -- its link is what follows it in l
  pub link_in_lem : (u : ℕ) → 0 < count u l → get_or (links_of ls).next u 0 ≡ after u l 255
  link_in_lem u h =
      let k : 0 < count u (at ls s) = rw here h in
      link_read ls u (low_at u h) ∙ link_at u ls s (fresh.once u) k ∙ ap (λ m. after u m 255) here

  module _ (inside : s < length ls) where
    -- how the count of u changes with another list m at s
    pub counts_with : (u : ℕ) (m : List ℕ) → counts u (set ls s m) + count u l ≡ counts u ls + count u m
    counts_with u m = omega (arith, counts_set u ls s m inside, ap (count u) here)

    -- fresh lists stay fresh where t comes to l from nowhere
    pub fresh_more : (t : ℕ) (m : List ℕ) → t < 32 → counts t ls ≡ 0 → ((u : ℕ) → count u m ≡ one u t + count u l) → Fresh (set ls s m)
    fresh_more t m small out more =
        record {
          once = λ u. by_equal u t
              (λ e. rw e (omega (arith, counts_with t m, more t, one_same t)))
              (λ n. omega (arith, counts_with u m, more u, one_other u t n, fresh.once u));
          low = λ u b. omega (arith, counts_with u m, more u, one_other u t (omega arith), fresh.low u b);
        }

    -- a thread of the new list is linked to what follows it there
    pub link_new : (u : ℕ) (m : List ℕ) → Fresh (set ls s m) → 0 < count u m → link_of u (set ls s m) ≡ after u m 255
    link_new u m f h =
        let e : at (set ls s m) s ≡ m = get_or-set_same ls s m [] inside in
        link_at u (set ls s m) s (f.once u) (rw e h) ∙ ap (λ x. after u x 255) e

    -- a thread that is followed by the same as before keeps its link
    pub link_old : (u : ℕ) (m : List ℕ) → ((d : ℕ) → after u m d ≡ after u l d) → link_of u ls ≡ link_of u (set ls s m)
    link_old u m h = sym (link_set u ls s m (λ d. h d ∙ ap (λ x. after u x d) (sym here)))

    -- no link changes
    same_links : (m : List ℕ) → ((u : ℕ) → link_of u ls ≡ link_of u (set ls s m)) → (links_of ls).next ≡ (links_of (set ls s m)).next
    unfolding links_of
    same_links m h = tabulate_same 32 (λ t. link_of t ls) (λ t. link_of t (set ls s m)) h

    -- the link of v alone changes, to w
    one_link : (m : List ℕ) (v w : ℕ) → link_of v (set ls s m) ≡ w → ((u : ℕ) → u ≢ v → link_of u ls ≡ link_of u (set ls s m))
        → set (links_of ls).next v w ≡ (links_of (set ls s m)).next
    unfolding links_of
    one_link m v w e h = rw (← e) (set_tabulate 32 (λ t. link_of t ls) (λ t. link_of t (set ls s m)) v h)

    -- the links of v and t alone change, to w and to none
    pub two_links : (m : List ℕ) (v w t : ℕ) → v ≢ t → link_of v (set ls s m) ≡ w → link_of t (set ls s m) ≡ 255
        → ((u : ℕ) → u ≢ v → u ≢ t → link_of u ls ≡ link_of u (set ls s m)) → set (set (links_of ls).next v w) t 255 ≡ (links_of (set ls s m)).next
    unfolding links_of
    two_links m v w t n e z h = rw (← e, ← z) (set_two 32 (λ u. link_of u ls) (λ u. link_of u (set ls s m)) v t n h)

    -- ---- t arrives from nowhere

    module _ (t : ℕ) (small : t < 32) (out : counts t ls ≡ 0) where
      -- t does not stand in l
      out_at : count t l ≡ 0
      out_at = omega (arith, count_at t ls s, ap (count t) here)

      -- freshness is kept at the back
      pub fresh_back : Fresh (set ls s (l ++ (t ∷ [])))
      fresh_back = fresh_more t (l ++ (t ∷ [])) small out (λ u. omega (arith, count_append u l (t ∷ [])))

      -- and at the front
      pub fresh_front : Fresh (set ls s (t ∷ l))
      fresh_front = fresh_more t (t ∷ l) small out (λ u. refl)

      -- t itself has no link behind it at the back
      back_link : link_of t ls ≡ link_of t (set ls s (l ++ (t ∷ [])))
      back_link =
          link_none t ls out
          ∙ sym (link_new t (l ++ (t ∷ [])) fresh_back (omega (arith, count_append t l (t ∷ []), one_same t)) ∙ after_back_new t l 255 out_at)

-- an arrival at the back is one in the list, and no other list changes
pub back_at : (ls : List (List ℕ)) (s : ℕ) (l : List ℕ) → at ls s ≡ l → Fresh ls → s < length ls → (t : ℕ) → t < 32 → counts t ls ≡ 0
    → back_model (links_of ls) (ends_of l) t ≡ linked_of ls s (l ++ (t ∷ []))
unfolding back_model ends_of
back_at ls s [] p f h t small out =
    let e = same_links ls s [] p f h (t ∷ [])
    (λ u. by_equal u t (λ e. rw e (back_link ls s [] p f h t small out)) (λ n. link_old ls s [] p f h u (t ∷ []) (λ d. after_rest u t [] d n))) in
    rw (lt-ltb t 32 small) (λ i. linked (e i) t t)
back_at ls s (x ∷ l) p f h t small out =
    let v = last_or x l in
    let v_in : 0 < count v (x ∷ l) = last_in x (x ∷ l) refl in
    let m = x ∷ l ++ (t ∷ []) in
    let more : count v m ≡ count v (x ∷ l) + (one v t + 0) = count_append v (x ∷ l) (t ∷ []) in
    let w : link_of v (set ls s m) ≡ t =
    link_new ls s (x ∷ l) p f h v m (fresh_back ls s (x ∷ l) p f h t small out) (omega arith)
    ∙ after_back_last t x l 255 (once_at ls s (x ∷ l) p f) in
    let e = one_link ls s (x ∷ l) p f h m v t w
    (λ u n. by_equal u t (λ e. rw e (back_link ls s (x ∷ l) p f h t small out))
    (λ k. link_old ls s (x ∷ l) p f h u m (λ d. after_back_other u t x l d k n))) in
    rw (lt-ltb t 32 small, lt-ltb v 32 (low_at ls s (x ∷ l) p f v v_in)) (λ i. linked (e i) x (sym (last_back x t l) i))

-- the same at the front
pub front_at : (ls : List (List ℕ)) (s : ℕ) (l : List ℕ) → at ls s ≡ l → Fresh ls → s < length ls → (t : ℕ) → t < 32 → counts t ls ≡ 0
    → front_model (links_of ls) (ends_of l) t ≡ linked_of ls s (t ∷ l)
unfolding front_model ends_of
front_at ls s l p f h t small out =
    let w : link_of t (set ls s (t ∷ l)) ≡ first_or 255 l =
    link_new ls s l p f h t (t ∷ l) (fresh_front ls s l p f h t small out) (omega (arith, one_same t)) ∙ after_first t l 255 in
    let e = one_link ls s l p f h (t ∷ l) t (first_or 255 l) w (λ u n. link_old ls s l p f h u (t ∷ l) (λ d. after_rest u t l d n)) in
    rw (lt-ltb t 32 small) (λ i. linked (e i) t (ends l (low_at ls s l p f) i))
  where
    ends : (l : List ℕ) → ((u : ℕ) → 0 < count u l → u < 32) → cond (ltb (first_or 255 l) 32) (last_or 255 l) t ≡ last_or t l
    ends [] k = refl
    ends (x ∷ l) k = rw (lt-ltb x 32 (k x (omega (arith, one_same x))))

-- a leave takes the first from the list, and no other list changes
pub leave_at : (ls : List (List ℕ)) (s : ℕ) (l : List ℕ) → at ls s ≡ l → Fresh ls → s < length ls
    → leave_model (links_of ls) (ends_of l) ≡ linked_of ls s (rest l)
unfolding leave_model ends_of
leave_at ls s [] p f h =
    let e : ls ≡ set ls s [] = sym (ap (set ls s) (sym p) ∙ set-get_or ls s []) in
    λ i. linked (links_of (e i)).next 255 255
leave_at ls s (x ∷ l) p f h =
    let x-in : 0 < count x (x ∷ l) = omega (arith, one_same x) in
    let w : link_of x (set ls s l) ≡ 255 =
    link_none x (set ls s l) (omega (arith, counts_with ls s (x ∷ l) p f h x l, one_same x, f.once x)) in
    let e = one_link ls s (x ∷ l) p f h l x 255 w (λ u n. link_old ls s (x ∷ l) p f h u l (λ d. sym (after_rest u x l d n))) in
    let a : get_or (links_of ls).next x 0 ≡ first_or 255 l = link_in_lem ls s (x ∷ l) p f x x-in ∙ after_first x l 255 in
    rw (lt-ltb x 32 (low_at ls s (x ∷ l) p f x x-in), a) (go l (λ u k. low_at ls s (x ∷ l) p f u (omega arith)) e)
  where
    go : (l : List ℕ) → ((u : ℕ) → 0 < count u l → u < 32) → {a b : List ℕ} → a ≡ b
        → cond (ltb (first_or 255 l) 32) (linked a (first_or 255 l) (last_or x l)) (linked a 255 255) ≡ linked b (first_or 255 l) (last_or 255 l)
    go [] k e = λ i. linked (e i) 255 255
    go (y ∷ l) k e = rw (lt-ltb y 32 (k y (omega (arith, one_same y)))) (λ i. linked (e i) y (last_or y l))

-- ---- the three laws at any slot

module _ (ls : List (List ℕ)) (s : ℕ) (fresh : Fresh ls) (inside : s < length ls) where
  -- an arrival at the back changes the list of slot s so, and no other
  pub back_of : (t : ℕ) → t < 32 → counts t ls ≡ 0
      → back_model (links_of ls) (ends_of (at ls s)) t ≡ linked_of ls s (at ls s ++ (t ∷ []))
  back_of = back_at ls s (at ls s) refl fresh inside

  -- an arrival at the front
  pub front_of : (t : ℕ) → t < 32 → counts t ls ≡ 0 → front_model (links_of ls) (ends_of (at ls s)) t ≡ linked_of ls s (t ∷ at ls s)
  front_of = front_at ls s (at ls s) refl fresh inside

  -- a leave
  pub leave_of : leave_model (links_of ls) (ends_of (at ls s)) ≡ linked_of ls s (rest (at ls s))
  leave_of = leave_at ls s (at ls s) refl fresh inside

-- ---- whether there is a first

-- a queue of threads has a first below 32 exactly where its list is not empty
pub occupied_of : (l : List ℕ) → ((u : ℕ) → 32 ≤ u → count u l ≡ 0) → ltb (ends_of l).first 32 ≡ occupied l
unfolding ends_of
occupied_of [] h = refl
occupied_of (x ∷ l) h =
    by_below x 32 (λ b. lt-ltb x 32 b)
    (λ b. absurd (omega (arith, h x b, one_same x)))
