-- The ticks left after each operation, and good ones stay good.
-- Assumes nothing.
use Prim.Native.Nat.{ℕ, ◌-◌, ◌<◌, ◌≤◌}
use mathlib.Core.Path.{◌≡◌, refl, sym, ap, ◌∙◌}
use native.Mathlib.Omega.{arith}
use lib.ListN.{length, set, replicate, length-set, length-map, length-replicate, get_or-replicate, get_or-eq_default, get_or-map}
use lib.Seq.{get_or-set_same, get_or-set_other, set-get_or, set_out}
use lib.Dec.{eqb, ltb}
use borrow.Author.Tests.{eqb-true, eqb-false, ltb-true, ltb-false}
use Rattle.laws.proofs.Bools.{by_cases}
use Rattle.wheel.specs.Hung.{Hung, Good, left, empty, free, with_left, started, stopped, ticked}

-- ---- one timer's ticks left changed

module _ (h : Hung) (i r : ℕ) where
  pub left_same : i < length h.lefts → left (with_left h i r) i ≡ r
  unfolding with_left
  left_same l = get_or-set_same h.lefts i r 0 l

  pub left_other : (j : ℕ) → (j ≡ i → ⊥) → left (with_left h i r) j ≡ left h j
  unfolding with_left
  left_other j n = get_or-set_other h.lefts i j r 0 n

  pub position_same : (with_left h i r).position ≡ h.position
  unfolding with_left
  position_same = refl

-- every running timer has one tick less after a tick
pub left_ticked : (h : Hung) (i : ℕ) → left (ticked h) i ≡ left h i - 1
unfolding ticked
left_ticked h i = get_or-map (λ (r : ℕ). r - 1) h.lefts i 0

-- stopping a stopped timer changes nothing
pub stopped_same : (h : Hung) (i : ℕ) → left h i ≡ 0 → stopped h i ≡ h
unfolding stopped with_left
stopped_same h i e =
    let p : set h.lefts i 0 ≡ h.lefts = ap (λ (r : ℕ). set h.lefts i r) (sym e) ∙ set-get_or h.lefts i 0 in
    λ x. record { position = h.position; lefts = p x }

-- an id that is none of the 32 has no ticks left
pub left_past : (h : Hung) → Good h → (i : ℕ) → 32 ≤ i → left h i ≡ 0
left_past h g i l = get_or-eq_default h.lefts 0 (omega (arith, g.timers))

-- ---- good ones stay good

pub good_empty : (count : ℕ) → Good (empty count)
unfolding empty
good_empty count =
    record {
      place = omega arith;
      timers = length-replicate {A = ℕ} 32 0;
      short = λ i. by_cases (ltb i 32)
          (λ l. rw (get_or-replicate {A = ℕ} 32 i 0 0 (ltb-true i 32 l)) (omega arith))
          (λ l. rw (get_or-eq_default {A = ℕ} (replicate 32 0) 0 (ltb-false i 32 l)) (omega arith));
    }

module _ (h : Hung) (g : Good h) where
  good_left : (i r : ℕ) → r < 65536 → Good (with_left h i r)
  unfolding with_left
  good_left i r l =
      record {
        place = g.place;
        timers = length-set h.lefts i r ∙ g.timers;
        short = λ j. by_cases (eqb j i)
            (λ e. by_cases (ltb i 32)
            (λ m. rw (eqb-true j i e, left_same h i r (omega (arith, g.timers, ltb-true i 32 m))) l)
            (λ m. rw (set_out h.lefts i r (omega (arith, g.timers, ltb-false i 32 m))) (g.short j)))
            (λ e. rw (left_other h i r j (eqb-false j i e)) (g.short j));
      }

  pub good_started : (i n : ℕ) → n < 65536 → Good (started h i n)
  unfolding started
  good_started i n l = by_cases (free h i n) (λ e. rw e (good_left i n l)) (λ e. rw e g)

  pub good_stopped : (i : ℕ) → Good (stopped h i)
  unfolding stopped
  good_stopped i = good_left i 0 (omega arith)

  pub good_ticked : Good (ticked h)
  unfolding ticked
  good_ticked =
      record {
        place = omega arith;
        timers = length-map h.lefts (λ (r : ℕ). r - 1) ∙ g.timers;
        short = λ i. rw (left_ticked h i) (omega (arith, g.short i));
      }
