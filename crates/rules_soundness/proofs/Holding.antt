-- The test that a set of queues holds exactly those who stand at a place says exactly that it fits.
-- Assumes nothing.
use Prim.Native.Nat.{ℕ, ◌<◌}
use mathlib.Core.Path.{◌≡◌, refl, sym, ◌∙◌, subst}
use mathlib.Core.Bool.{Bool, true, false, not, ◌&&◌, false≢true}
use mathlib.Core.List.{List, [], ◌∷◌}
use lib.ListN.{length, get_or-eq_default}
use lib.Dec.{eqb, ltb}
use borrow.Author.Tests.{eqb-true, eq-eqb, ltb-true, ltb-false, lt-ltb, not-true}
use Rattle.laws.proofs.Bools.{no_way, refuted, and_left, and_right, and_both}
use Rattle.rules.specs.Queues.{QueueSet, queue}
use Rattle.rules.specs.State.{Where, running, same, Rows, at, priority}
use Rattle.rules.specs.Sound.{each, members, mem, distinct, implies, holds}
use Rattle.rules_soundness.proofs.Tests.{iff, implied, implying, each_at, at_each, members_at, at_members}
use Rattle.rules_soundness.proofs.Fits.{Ordered, Fits, here, there}
use Rattle.rules_soundness.proofs.Rows.{standing_exists}
use Rattle.rules_soundness.proofs.Facts.{Apart}

-- ---- distinct members are apart

distinct_ordered : (q : List ℕ) → distinct q ≡ true → Ordered Apart q
unfolding distinct
distinct_ordered [] e = tt
distinct_ordered (t ∷ q) e = (
  λ u m z. no_way (mem t q) (rw z m) (not-true (mem t q) (and_left (not (mem t q)) (distinct q) e)),
  distinct_ordered q (and_right (not (mem t q)) (distinct q) e),
)

ordered_distinct : (q : List ℕ) → Ordered Apart q → distinct q ≡ true
unfolding distinct
ordered_distinct [] o = refl
ordered_distinct (t ∷ q) o = and_both (not (mem t q)) (distinct q) (rw (refuted (mem t q) (λ m. o.0 t m refl))) (ordered_distinct q o.1)

-- ---- the test and the fact

module _ (k : Rows) (w : Where) (n : same running w ≡ false) (qs : QueueSet) where
  abbrev one : ℕ → ℕ → Bool
  one p t = ltb t (length k.threads) && at k w t && eqb (priority k t) p

  abbrev at_level : ℕ → Bool
  at_level p = members (one p) (queue qs p) && distinct (queue qs p)

  abbrev placed : ℕ → Bool
  placed t = implies (at k w t) (mem t (queue qs (priority k t)))

  pub holds_fits : holds k w qs ≡ true → Fits (at k w) (priority k) Apart qs
  unfolding holds
  holds_fits e = record {
    size = size;
    who = λ p u h. iff (mem u (queue qs p)) (at k w u && eqb (priority k u) p) (inside p u h) (placed_there p u);
    order = λ p h. distinct_ordered (queue qs p) (and_right (members (one p) (queue qs p)) (distinct (queue qs p)) (level p h));
    low = low;
  }
    where
      first_two : (eqb (length qs) 16 && each 16 at_level) ≡ true
      first_two = and_left (eqb (length qs) 16 && each 16 at_level) (each (length k.threads) placed) e

      size : length qs ≡ 16
      size = eqb-true (length qs) 16 (and_left (eqb (length qs) 16) (each 16 at_level) first_two)

      level : (p : ℕ) → p < 16 → at_level p ≡ true
      level = each_at 16 at_level (and_right (eqb (length qs) 16) (each 16 at_level) first_two)

      there_in : (u : ℕ) → at k w u ≡ true → mem u (queue qs (priority k u)) ≡ true
      there_in u a = implied (at k w u) (mem u (queue qs (priority k u))) (each_at (length k.threads) placed (and_right (eqb (length qs) 16 && each 16 at_level) (each (length k.threads) placed) e) u (standing_exists k w u n a)) a

      inside : (p u : ℕ) → p < 16 → mem u (queue qs p) ≡ true → (at k w u && eqb (priority k u) p) ≡ true
      inside p u h m =
          let x = members_at (one p) (queue qs p) (and_left (members (one p) (queue qs p)) (distinct (queue qs p)) (level p h)) u m in
          and_both (at k w u) (eqb (priority k u) p)
          (and_right (ltb u (length k.threads)) (at k w u) (and_left (ltb u (length k.threads) && at k w u) (eqb (priority k u) p) x))
          (and_right (ltb u (length k.threads) && at k w u) (eqb (priority k u) p) x)

      placed_there : (p u : ℕ) → (at k w u && eqb (priority k u) p) ≡ true → mem u (queue qs p) ≡ true
      placed_there p u m = subst (λ x. mem u (queue qs x) ≡ true) (eqb-true (priority k u) p (and_right (at k w u) (eqb (priority k u) p) m)) (there_in u (and_left (at k w u) (eqb (priority k u) p) m))

      low : (u : ℕ) → at k w u ≡ true → priority k u < 16
      low u a = go (ltb (priority k u) 16) refl
        where
          go : (b : Bool) → ltb (priority k u) 16 ≡ b → priority k u < 16
          go true q = ltb-true (priority k u) 16 q
          go false q = absurd (false≢true (unfold mem in (subst (λ l. mem u l ≡ true) (get_or-eq_default qs [] (rw size (ltb-false (priority k u) 16 q))) (there_in u a))))

  pub fits_holds : Fits (at k w) (priority k) Apart qs → holds k w qs ≡ true
  unfolding holds
  fits_holds f = and_both (eqb (length qs) 16 && each 16 at_level) (each (length k.threads) placed)
      (and_both (eqb (length qs) 16) (each 16 at_level) (eq-eqb (length qs) 16 f.size) (at_each 16 at_level level))
      (at_each (length k.threads) placed (λ u l. implying (at k w u) (mem u (queue qs (priority k u))) (there f u)))
    where
      level : (p : ℕ) → p < 16 → at_level p ≡ true
      level p h = and_both (members (one p) (queue qs p)) (distinct (queue qs p)) (at_members (one p) (queue qs p) (member p h)) (ordered_distinct (queue qs p) (f.order p h))
        where
          member : (p : ℕ) → p < 16 → (u : ℕ) → mem u (queue qs p) ≡ true → one p u ≡ true
          member p h u m =
              let a = here f p u h m in
              and_both (ltb u (length k.threads) && at k w u) (eqb (priority k u) p)
              (and_both (ltb u (length k.threads)) (at k w u) (lt-ltb u (length k.threads) (standing_exists k w u n a)) a)
              (and_right (at k w u) (eqb (priority k u) p) (sym (f.who p u h) ∙ m))
