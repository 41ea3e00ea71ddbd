-- What leaving from anywhere does to the lists that links and queues stand for, over all slots at once: from the list of its slot the thread is taken, and no
-- other list changes; where it does not stand in that list nothing does.
-- Assumes nothing.
use Prim.Native.Nat.{ℕ, ◌+◌, ◌<◌, ◌≤◌}
use mathlib.Core.Path.{◌≡◌, refl, sym, ap, ◌∙◌}
use mathlib.Core.Logic.{◌≢◌}
use mathlib.Core.Bool.{cond}
use mathlib.Core.List.{List, [], ◌∷◌, ◌++◌}
use native.Mathlib.Omega.{arith}
use lib.ListN.{length, get_or, set}
use lib.Seq.{set-get_or}
use lib.Dec.{eqb}
use borrow.Author.Tests.{lt-ltb, le-ltb, eq-eqb, ne_eqb}
use Rattle.laws.specs.Counting.{at, first_or, last_or, one, count}
use Rattle.laws.proofs.Lists.{by_below, one_same, count_append, last_in}
use Rattle.queue.specs.Linking.{linked, ahead_model, remove_behind, remove_model}
use Rattle.queue.specs.Stands.{Fresh, ends_of, link_of, links_of, linked_of}
use Rattle.queue.proofs.Linking.{after_joint, after_behind, after_skip, followed, first_other, followed_none, followed_last, way_of, link_none}
use Rattle.queue.proofs.Laws.{low_at, once_at, link_in_lem, counts_with, link_new, link_old, two_links, leave_at}
use Rattle.queue.proofs.Canon.{short_at, chained_at}

-- the last of two lists end to end
last_append : (d : ℕ) (l m : List ℕ) → last_or d (l ++ m) ≡ last_or (last_or d l) m
last_append d [] m = refl
last_append d (x ∷ l) m = last_append x l m

module _ (ls : List (List ℕ)) (s : ℕ) (fresh : Fresh ls) where
  -- the way along the links finds the one that t follows in the list
  found : (t : ℕ) (l : List ℕ) → at ls s ≡ l → ahead_model (links_of ls).next 32 (first_or 255 l) t ≡ followed t l
  found t l here = rw (← here) (way_of (links_of ls).next t (at ls s) 32 (short_at ls s fresh) (once_at ls s (at ls s) refl fresh) (chained_at ls s fresh))

  -- where t does not stand in the list nothing changes
  pub remove_out : (t : ℕ) (l : List ℕ) → at ls s ≡ l → count t l ≡ 0 → remove_model (links_of ls) (ends_of l) t ≡ linked_of ls s l
  unfolding remove_model remove_behind ends_of
  remove_out t l here out = by_below t 32
      (λ b. rw (lt-ltb t 32 b, ne_eqb (first_or 255 l) t (first_other t l b out), found t l here, followed_none t l b out) same)
      (λ b. rw (le-ltb t 32 b) same)
    where
      kept : ls ≡ set ls s l
      kept = sym (ap (set ls s) (sym here) ∙ set-get_or ls s [])

      same : linked (links_of ls).next (first_or 255 l) (last_or 255 l) ≡ linked_of ls s l
      same = λ i. linked (links_of (kept i)).next (first_or 255 l) (last_or 255 l)

-- ---- t stands behind others in the list at slot s

module _ (ls : List (List ℕ)) (s t x : ℕ) (a b : List ℕ) (here : at ls s ≡ x ∷ a ++ (t ∷ b)) (fresh : Fresh ls) (inside : s < length ls) where
  -- the list
  abbrev old : List ℕ
  old = x ∷ a ++ (t ∷ b)

  -- the list without t
  abbrev new : List ℕ
  new = x ∷ a ++ b

  -- the one that t follows
  abbrev v : ℕ
  v = last_or x a

  -- who stands in the old list
  parts : (u : ℕ) → count u old ≡ count u (x ∷ a) + (one u t + count u b)
  parts u = count_append u (x ∷ a) (t ∷ b)

  -- who stands in the new one
  left : (u : ℕ) → count u new ≡ count u (x ∷ a) + count u b
  left u = count_append u (x ∷ a) b

  -- each of them once
  once : (u : ℕ) → count u old ≤ 1
  once = once_at ls s old here fresh

  -- so t stands neither before its place
  before_t : count t (x ∷ a) ≡ 0
  before_t = omega (arith, once t, parts t, one_same t)

  -- nor behind it
  behind_t : count t b ≡ 0
  behind_t = omega (arith, once t, parts t, one_same t)

  -- t is a thread
  t_small : t < 32
  t_small = low_at ls s old here fresh t (omega (arith, parts t, one_same t))

  -- v stands before it
  v_in : 0 < count v (x ∷ a)
  v_in = last_in x (x ∷ a) refl

  -- v is a thread
  v_small : v < 32
  v_small = low_at ls s old here fresh v (omega (arith, parts v, v_in))

  -- another one than t
  v_other : v ≢ t
  v_other e = absurd (omega (arith, before_t, v_in, ap (λ u. count u (x ∷ a)) e))

  -- the lists are fresh with it
  fresh_less : Fresh (set ls s new)
  fresh_less =
      record {
        once = λ u. omega (arith, counts_with ls s old here fresh inside u new, parts u, left u, fresh.once u);
        low = λ u k. omega (arith, counts_with ls s old here fresh inside u new, parts u, left u, fresh.low u k);
      }

  -- v is linked to what t was linked to
  link_v : link_of v (set ls s new) ≡ get_or (links_of ls).next t 0
  link_v =
      link_new ls s old here fresh inside v new fresh_less (omega (arith, left v, v_in))
      ∙ after_joint x a b 255 (λ u. omega (arith, once u, parts u))
      ∙ sym (link_in_lem ls s old here fresh t (omega (arith, parts t, one_same t)) ∙ after_behind t (x ∷ a) b 255 before_t)

  -- t has no link
  link_t : link_of t (set ls s new) ≡ 255
  link_t = link_none t (set ls s new) (omega (arith, counts_with ls s old here fresh inside t new, parts t, left t, one_same t, fresh.once t))

  -- where t was the last, v is
  last_moved : cond (eqb (last_or x (a ++ (t ∷ b))) t) v (last_or x (a ++ (t ∷ b))) ≡ last_or x (a ++ b)
  last_moved = ap (λ y. cond (eqb y t) v y) (last_append x a (t ∷ b)) ∙ go b behind_t ∙ sym (last_append x a b)
    where
      go : (b : List ℕ) → count t b ≡ 0 → cond (eqb (last_or t b) t) (last_or x a) (last_or t b) ≡ last_or (last_or x a) b
      go [] k = rw (eq-eqb t t refl)
      go (y ∷ b) k = rw (ne_eqb (last_or y b) t (λ e. absurd (omega (arith, k, last_in y (y ∷ b) refl, ap (λ u. count u (y ∷ b)) e))))

  -- t is taken from behind v
  remove_behind_lem : remove_model (links_of ls) (ends_of old) t ≡ linked_of ls s new
  unfolding remove_model remove_behind ends_of
  remove_behind_lem =
      let e = two_links ls s old here fresh inside new v (get_or (links_of ls).next t 0) t v_other link_v link_t
      (λ u n k. link_old ls s old here fresh inside u new (λ d. after_skip u t x a b d k n)) in
      rw (lt-ltb t 32 t_small, ne_eqb x t (first_other t (x ∷ a) t_small before_t), found ls s fresh t old here, followed_last t x a b before_t, lt-ltb v 32 v_small)
      (λ i. linked (e i) x (last_moved i))

-- t is taken from between a and b
pub remove_at : (ls : List (List ℕ)) (s : ℕ) (t : ℕ) (a b : List ℕ) → at ls s ≡ a ++ (t ∷ b) → Fresh ls → s < length ls
    → remove_model (links_of ls) (ends_of (a ++ (t ∷ b))) t ≡ linked_of ls s (a ++ b)
unfolding remove_model ends_of
remove_at ls s t [] b here fresh inside =
    rw (lt-ltb t 32 (low_at ls s (t ∷ b) here fresh t (omega (arith, one_same t))), eq-eqb t t refl) (unfold ends_of in (leave_at ls s (t ∷ b) here fresh inside))
remove_at ls s t (x ∷ a) b here fresh inside = remove_behind_lem ls s t x a b here fresh inside

-- ---- the law at any slot

module _ (ls : List (List ℕ)) (s : ℕ) (fresh : Fresh ls) (inside : s < length ls) where
  -- t leaves the list of slot s from wherever it stands there, and no other list changes
  pub remove_of : (t : ℕ) (a b : List ℕ) → at ls s ≡ a ++ (t ∷ b) → remove_model (links_of ls) (ends_of (at ls s)) t ≡ linked_of ls s (a ++ b)
  remove_of t a b here = ap (λ l. remove_model (links_of ls) (ends_of l) t) here ∙ remove_at ls s t a b here fresh inside

  -- where it does not stand there, none does
  pub remove_none_of : (t : ℕ) → count t (at ls s) ≡ 0 → remove_model (links_of ls) (ends_of (at ls s)) t ≡ linked_of ls s (at ls s)
  remove_none_of t out = remove_out ls s fresh t (at ls s) refl out
