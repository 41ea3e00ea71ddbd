-- Links and queues are known by their lists: reading back gives the lists, and links and queues that stand for the same lists are the same.
-- Assumes nothing.
use Prim.Native.Nat.{ℕ, zero, suc, ◌+◌, ◌*◌, ◌<◌, ◌≤◌}
use mathlib.Core.Path.{◌≡◌, refl, sym, ap, ◌∙◌}
use mathlib.Core.List.{List, [], ◌∷◌, flatten}
use native.Mathlib.Omega.{arith}
use lib.ListN.{length}
use Rattle.laws.specs.Counting.{at, first_or, count, Wide}
use Rattle.laws.proofs.Lists.{count_at, pigeonhole, get_or_flatten}
use Rattle.queue.specs.Linking.{walk, read_model}
use Rattle.queue.specs.Stands.{Fresh, Represents, ends_of, links_of}
use Rattle.queue.specs.declared.Queue.{Queue}
use Rattle.queue.specs.declared.Links.{Links}
use Rattle.queue.proofs.Searches.{walk_none, walk_more}
use Rattle.queue.proofs.Linking.{Chained, chained_first, chained_rest}
use Rattle.queue.proofs.Laws.{low_at, once_at, link_in_lem}

-- ---- reading back

-- the walk meets a list whose threads are each linked to the next
walked : (next l : List ℕ) (n : ℕ) → length l ≤ n → ((u : ℕ) → count u l ≤ 1) → Chained next l → walk next n (first_or 255 l) ≡ l
walked next [] n h once c = walk_none next n 255 (omega arith)
walked next (x ∷ l) zero h once c = absurd (omega arith)
walked next (x ∷ l) (suc n) h once c =
    let k = chained_first next x l c in
    walk_more next n x k.0 ∙ ap (λ t. x ∷ walk next n t) k.1
    ∙ ap (λ m. x ∷ m) (walked next l n (omega arith) (λ u. omega (arith, once u)) (chained_rest next x l once c))

-- a list of fresh lists has at most 32 threads
pub short_at : (ls : List (List ℕ)) (s : ℕ) → Fresh ls → length (at ls s) ≤ 32
short_at ls s f =
    pigeonhole 32 (at ls s) (once_at ls s (at ls s) refl f) (λ u b. omega (arith, f.low u b, count_at u ls s))

-- its threads are linked in its order
pub chained_at : (ls : List (List ℕ)) (s : ℕ) → Fresh ls → Chained (links_of ls).next (at ls s)
chained_at ls s f u b = (low_at ls s (at ls s) refl f u b, link_in_lem ls s (at ls s) refl f u b)

-- reading gives the list back
pub read_of : (ls : List (List ℕ)) (s : ℕ) → Fresh ls → read_model (links_of ls) (ends_of (at ls s)) ≡ at ls s
unfolding read_model ends_of
read_of ls s f =
    walked (links_of ls).next (at ls s) 32 (short_at ls s f) (once_at ls s (at ls s) refl f) (chained_at ls s f)

-- ---- canonical

module _ (k : Links) (qs : List Queue) (ls : List (List ℕ)) (r : Represents k qs ls) where
  -- links and queues that stand for the same lists are the same
  pub canonical : (k' : Links) (qs' : List Queue) → Represents k' qs' ls → (k ≡ k') × (qs ≡ qs')
  canonical k' qs' r' = (r.links ∙ sym r'.links, r.queues ∙ sym r'.queues)

-- ---- many sets side by side

-- each list of each set is read back
pub read_in : (w : ℕ) (xss : List (List (List ℕ))) (i p : ℕ) → Wide w xss → p < w → Fresh (flatten xss)
    → read_model (links_of (flatten xss)) (ends_of (at (at xss i) p)) ≡ at (at xss i) p
read_in w xss i p h k f =
    let e = get_or_flatten w xss i p [] h k in
    ap (λ l. read_model (links_of (flatten xss)) (ends_of l)) (sym e) ∙ read_of (flatten xss) (w * i + p) f ∙ e
