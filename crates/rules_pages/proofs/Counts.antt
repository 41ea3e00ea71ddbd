-- How many numbers pass a test: the laws of `how_many` that places in a queue need.
-- Assumes nothing.
use Prim.Native.Nat.{ℕ, zero, suc, ◌<◌, ◌≤◌}
use mathlib.Core.Path.{◌≡◌, refl, sym, ap, ◌∙◌}
use mathlib.Core.Bool.{Bool, true, false, not, ◌||◌, ◌&&◌}
use native.Mathlib.Omega.{arith}
use native.Mathlib.Nat.{not-suc-le-zero}
use lib.Dec.{eqb}
use borrow.Author.Tests.{eq-eqb, ne_eqb, eqb-true}
use Rattle.laws.proofs.Bools.{by_cases, self, or_false, and-true}
use Rattle.laws.proofs.Lists.{by_equal}
use Rattle.rules.specs.Page.{how_many}

-- the same numbers, the same many
pub many_same : (n : ℕ) (f g : ℕ → Bool) → ((v : ℕ) → v < n → f v ≡ g v) → how_many n f ≡ how_many n g
unfolding how_many
many_same zero f g h = refl
many_same (suc n) f g h = rw (h n (omega arith), many_same n f g (λ v l. h v (omega arith)))

-- none of none
pub many_none : (n : ℕ) → how_many n (λ v. false) ≡ 0
unfolding how_many
many_none zero = refl
many_none (suc n) = rw (many_none n)

-- at most all
many_most : (n : ℕ) (f : ℕ → Bool) → how_many n f ≤ n
unfolding how_many
many_most zero f = omega arith
many_most (suc n) f = by_cases (f n) (λ e. rw e (omega (arith, many_most n f))) (λ e. rw e (omega (arith, many_most n f)))

-- t passes one test and not the other, which else are one
pub many_more : (n t : ℕ) (f g : ℕ → Bool) → t < n → g t ≡ false → ((v : ℕ) → v < n → f v ≡ (eqb v t || g v)) → how_many n f ≡ suc (how_many n g)
unfolding how_many
many_more zero t f g l e d = absurd (not-suc-le-zero l)
many_more (suc n) t f g l e d =
    by_equal t n
    (λ q. let rest : how_many n f ≡ how_many n g = many_same n f g (λ v z. d v (omega arith) ∙ rw (ne_eqb v t (λ y. omega arith))) in
    let out : g n ≡ false = rw q at e in
    rw (d n (omega arith), eq-eqb n t (sym q), out, rest) (omega arith))
    (λ q. let rest : how_many n f ≡ suc (how_many n g) = many_more n t f g (omega arith) e (λ v z. d v (omega arith)) in
    rw (d n (omega arith), ne_eqb n t (λ y. q (sym y)), rest) (omega arith))

-- fewer than all where one of them fails
pub many_below : (n t : ℕ) (f : ℕ → Bool) → t < n → f t ≡ false → how_many n f < n
many_below n t f l e = omega (arith, many_more n t (λ v. eqb v t || f v) f l e (λ v z. refl), many_most n (λ v. eqb v t || f v))

-- one number alone
pub many_one : (n t : ℕ) (f : ℕ → Bool) → t < n → ((v : ℕ) → v < n → f v ≡ eqb v t) → how_many n f ≡ 1
many_one n t f l d =
    many_same n f (λ v. eqb v t || false) (λ v z. d v z ∙ sym (or_false (eqb v t)))
    ∙ many_more n t (λ v. eqb v t || false) (λ v. false) l refl (λ v z. refl)
    ∙ ap suc (many_none n)

-- all but one that passes
many_less : (n t : ℕ) (f : ℕ → Bool) → t < n → f t ≡ true → how_many n f ≡ suc (how_many n (λ v. f v && not (eqb v t)))
many_less n t f l e = many_more n t f (λ v. f v && not (eqb v t)) l (rw (e, self t)) (λ v z. by_cases (eqb v t)
    (λ y. rw (y, eqb-true v t y) e)
    (λ y. rw y (sym (and-true (f v)))))

-- where one passes, two that pass are one
pub many_only : (n t u : ℕ) (f : ℕ → Bool) → how_many n f ≡ 1 → t < n → u < n → f t ≡ true → f u ≡ true → u ≡ t
many_only n t u f one k l e g = by_equal u t (λ q. q) (λ q.
    absurd (omega (arith, one, many_less n t f k e, many_less n u (λ v. f v && not (eqb v t)) l (rw (g, ne_eqb u t q)))))
