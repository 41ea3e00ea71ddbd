-- Queues as ordered lists: an ordered queue is known by who is in it, how many stand in front orders a queue, and in a queue ordered by a test it
-- is how many pass it, so in one ordered by places the number of smaller places.
-- Assumes nothing.
use Prim.Native.Nat.{ℕ, suc, ◌<◌}
use mathlib.Core.Path.{◌≡◌, refl, sym, ap, ◌∙◌}
use mathlib.Core.Bool.{Bool, true, false, cond, ◌||◌, ◌&&◌, false≢true}
use mathlib.Core.List.{List, [], ◌∷◌}
use native.Mathlib.Omega.{arith}
use lib.Dec.{eqb, ltb}
use borrow.Author.Tests.{eqb-true, ne_eqb, ltb-true, lt-ltb, le-ltb}
use Rattle.laws.proofs.Bools.{by_cases, no_way, refuted, self, or_elim, or_right, and_left, and_right}
use Rattle.laws.proofs.Lists.{by_equal}
use Rattle.rules.specs.Sound.{mem}
use Rattle.rules.specs.Page.{how_many, ahead}
use Rattle.rules_soundness.proofs.Tests.{mem_first}
use Rattle.rules_soundness.proofs.Fits.{Ordered, ordered_mono}
use Rattle.rules_soundness.proofs.Facts.{Apart}
use Rattle.rules_pages.proofs.Counts.{many_same, many_none, many_more}

-- ---- an ordered queue is known by who is in it

module _ (before : ℕ → ℕ → Type 0) (asym : (u v : ℕ) → before u v → before v u → ⊥) where
  -- who is before all others is not among them
  gone : (t : ℕ) (q : List ℕ) → ((u : ℕ) → mem u q ≡ true → before t u) → mem t q ≡ false
  gone t q h = refuted (mem t q) (λ e. asym t t (h t e) (h t e))

  pub unique : (q r : List ℕ) → Ordered before q → Ordered before r → ((u : ℕ) → mem u q ≡ mem u r) → q ≡ r
  unfolding mem
  unique [] [] o p h = refl
  unique [] (v ∷ r) o p h = absurd (false≢true (h v ∙ mem_first v r))
  unique (t ∷ q) [] o p h = absurd (false≢true (sym (h t) ∙ mem_first t q))
  unique (t ∷ q) (v ∷ r) o p h = cc (heads, unique q r o.1 p.1 tails)
    where
      heads : t ≡ v
      heads = by_equal t v (λ e. e) (λ n. absurd (asym t v
          (or_elim (eqb v t) (mem v q) (h v ∙ mem_first v r) (λ y. absurd (n (sym (eqb-true v t y)))) (o.0 v))
          (or_elim (eqb t v) (mem t r) (sym (h t) ∙ mem_first t q) (λ y. absurd (n (eqb-true t v y))) (p.0 t))))

      tails : (u : ℕ) → mem u q ≡ mem u r
      tails u = by_cases (eqb u t)
          (λ e. rw (eqb-true u t e) (gone t q o.0 ∙ sym (rw heads (gone v r p.0))))
          (λ e. let g : eqb u v ≡ false = rw (← heads) e in rw (e, g) at (h u))

-- ---- how many stand in front

-- whoever stands further back has more in front
pub ahead_ordered : (q : List ℕ) → Ordered Apart q → Ordered (λ u v. ahead u q < ahead v q) q
unfolding ahead mem
ahead_ordered [] o = tt
ahead_ordered (t ∷ q) o = (
  λ u m. rw (self t, later u m) (omega arith),
  ordered_mono (λ u v. ahead u q < ahead v q) (λ u v. ahead u (t ∷ q) < ahead v (t ∷ q)) q
      (λ u v m l h. unfold ahead in (rw (later u m, later v l) (omega arith))) (ahead_ordered q o.1),
)
  where
    later : (u : ℕ) → mem u q ≡ true → eqb u t ≡ false
    later u m = ne_eqb u t (λ z. o.0 u m (sym z))

-- two in a queue with as many in front are one
pub ahead_one : (q : List ℕ) (t u : ℕ) → mem t q ≡ true → mem u q ≡ true → ahead u q ≡ ahead t q → u ≡ t
unfolding ahead mem
ahead_one [] t u e g h = absurd (false≢true e)
ahead_one (x ∷ q) t u e g h = go (eqb t x) (eqb u x) refl refl e g h (ahead_one q t u)
  where
    go : (a b : Bool) → eqb t x ≡ a → eqb u x ≡ b → (a || mem t q) ≡ true → (b || mem u q) ≡ true → cond b 0 (suc (ahead u q)) ≡ cond a 0 (suc (ahead t q))
        → (mem t q ≡ true → mem u q ≡ true → ahead u q ≡ ahead t q → u ≡ t) → u ≡ t
    go true true a b e g h r = eqb-true u x b ∙ sym (eqb-true t x a)
    go true false a b e g h r = absurd (omega arith)
    go false true a b e g h r = absurd (omega arith)
    go false false a b e g h r = r e g (omega arith)

-- in a queue ordered by a test as many stand in front of t as pass it against t
module _ (n : ℕ) (less : ℕ → ℕ → Bool) (one_way : (u v : ℕ) → less u v ≡ true → less v u ≡ false) where
  -- nobody is before itself
  itself : {A : Type 0} (u : ℕ) → less u u ≡ true → A
  itself u e = no_way (less u u) e (one_way u u e)

  pub ahead_by : (q : List ℕ) → Ordered (λ u v. less u v ≡ true) q → ((u : ℕ) → mem u q ≡ true → u < n) → (t : ℕ) → mem t q ≡ true
      → how_many n (λ u. mem u q && less u t) ≡ ahead t q
  unfolding ahead mem
  ahead_by [] o w t m = absurd (false≢true m)
  ahead_by (x ∷ q) o w t m = by_cases (eqb t x)
      (λ e. rw e (many_same n (λ u. (eqb u x || mem u q) && less u t) (λ u. false) (λ u l. none u e) ∙ many_none n))
      (λ e. rw e (many_more n x (λ u. (eqb u x || mem u q) && less u t) (λ u. mem u q && less u t) (w x (mem_first x q)) (rw out) (λ u l. split u e)
      ∙ ap suc (ahead_by q o.1 (λ u z. w u (or_right (eqb u x) (mem u q) z)) t (inside e))))
    where
      out : mem x q ≡ false
      out = refuted (mem x q) (λ y. itself x (o.0 x y))

      inside : eqb t x ≡ false → mem t q ≡ true
      inside e = or_elim (eqb t x) (mem t q) m (λ y. no_way (eqb t x) y e) (λ y. y)

      none : (u : ℕ) → eqb t x ≡ true → ((eqb u x || mem u q) && less u t) ≡ false
      none u e = refuted ((eqb u x || mem u q) && less u t) (λ y.
          let low : less u x ≡ true = rw (eqb-true t x e) at (and_right (eqb u x || mem u q) (less u t) y) in
          or_elim (eqb u x) (mem u q) (and_left (eqb u x || mem u q) (less u t) y)
          (λ z. itself x (rw (eqb-true u x z) at low))
          (λ z. no_way (less u x) low (one_way x u (o.0 u z))))

      split : (u : ℕ) → eqb t x ≡ false → ((eqb u x || mem u q) && less u t) ≡ (eqb u x || (mem u q && less u t))
      split u e = by_cases (eqb u x) (λ y. rw (y, eqb-true u x y) (o.0 t (inside e))) (λ y. rw y)

-- so in one ordered by places as many as have a smaller place
pub ahead_many : (n : ℕ) (place : ℕ → ℕ) (q : List ℕ) → Ordered (λ u v. place u < place v) q → ((u : ℕ) → mem u q ≡ true → u < n) → (t : ℕ) → mem t q ≡ true
    → how_many n (λ u. mem u q && ltb (place u) (place t)) ≡ ahead t q
ahead_many n place q o =
    ahead_by n (λ u v. ltb (place u) (place v)) (λ u v h. le-ltb (place v) (place u) (omega (arith, ltb-true (place u) (place v) h))) q
    (ordered_mono (λ u v. place u < place v) (λ u v. ltb (place u) (place v) ≡ true) q (λ u v m l h. lt-ltb (place u) (place v) h) o)
