-- A tick of the wheel: the visits of the timers on the next spoke come to one tick less for each timer.
-- Assumes nothing.
use Prim.Native.Nat.{ℕ, ◌+◌, ◌-◌, ◌%◌, ◌<◌}
use mathlib.Core.Path.{◌≡◌, refl, sym, ap}
use mathlib.Core.Bool.{xor}
use native.Mathlib.Omega.{arith}
use lib.ListN.{length, get_or, set}
use lib.Seq.{get_or-set_other}
use lib.Dec.{eqb, ltb}
use lib.Bits.{bit_xor}
use borrow.Author.Tests.{lt-ltb}
use Rattle.laws.specs.Lists.{tabulate, among}
use Rattle.laws.specs.Bits.{word_of, members}
use Rattle.laws.proofs.Lists.{get_d_tabulate, set_tabulate_below, tabulate_below}
use Rattle.laws.proofs.Bits.{word_same, xor_words, members_word}
use Rattle.wheel.specs.Hung.{Hung, Good, left, ticked, spoke_of, turns_of, hangs, on_next}
use Rattle.wheel.specs.Inside.{laid, tables_of, words_of, made, last_tick, next_at, midst, moved, cleared, turned_at, turned_in}
use Rattle.wheel.proofs.Lefts.{left_ticked}
use Rattle.wheel.proofs.Words.{sized, with_position, word_at, word_put, position_put}
use Rattle.wheel.proofs.Turning.{ends, kept, others, spoke_after, turns_after}
use Rattle.wheel.proofs.Visits.{visited_below, begun, turn, at_end, home, tables_after, sized_after, After}
use Rattle.wheel.proofs.Hanging.{position_at_lem, spoke_word, hangs_at}

-- the turns left to a timer, and its spoke
abbrev turns_now : Hung → ℕ → ℕ
turns_now h i = turns_of (left h i)

abbrev spoke_now : Hung → ℕ → ℕ
spoke_now h i = spoke_of h.position (left h i)

module _ (h : Hung) (g : Good h) (u : ℕ) (next : u ≡ (h.position + 1) % 64) where
  -- the tick moves to the next spoke
  moves : next_at (words_of h) ≡ u
  moves = rw (position_at_lem h) (omega (arith, g.place))

  -- the wheel there
  moved_there : moved (words_of h) ≡ laid (with_position (tables_of h) u)
  unfolding moved
  moved_there = rw moves (position_put (tables_of h) (sized h) u)

  -- as the visits begin
  begins : midst (laid (with_position (tables_of h) u)) 0 0 ≡ After (tables_of h).spokes u (hangs h u) (turns_now h) (spoke_now h) 0
  unfolding tables_of
  begins = sym (begun (tables_of h).spokes u (hangs h u) (turns_now h) (spoke_now h))

  -- a timer that is seen at its end is one with one tick left
  end_is_one : (i : ℕ) → i < 32 → at_end (hangs h u) (turns_now h) (ltb i 32) i ≡ eqb (left h i) 1
  unfolding hangs
  end_is_one i l = rw (lt-ltb i 32 l) (ends h.position u g.place next (left h i))

  position_after : (ticked h).position ≡ u
  unfolding ticked
  position_after = sym next

  hangs_after : (s i : ℕ) → hangs (ticked h) s i ≡ eqb (spoke_of u (left h i - 1)) s
  unfolding hangs
  hangs_after s i = rw (left_ticked h i, position_after)

  -- the word of those that came due
  due_word : word_of 32 (λ i. at_end (hangs h u) (turns_now h) (ltb i 32) i) ≡ (last_tick h).ids
  unfolding last_tick
  due_word = word_same 32 _ _ end_is_one

  on_next_lem : (i : ℕ) → xor (hangs h u i) (eqb (left h i) 1) ≡ hangs (ticked h) u i
  on_next_lem i = rw (hangs_after u i, hangs_at h i u (spoke_now h i) refl) (kept h.position u g.place next (left h i))

  on_others : (s i : ℕ) → s < 64 → (s ≡ u → ⊥) → hangs h s i ≡ hangs (ticked h) s i
  on_others s i l n =
      rw (hangs_after s i, hangs_at h i s (spoke_now h i) refl) (others h.position u g.place next (left h i) s l n)

  spokes_after : set (tables_of h).spokes u (bit_xor (get_or (tables_of h).spokes u 0) (last_tick h).ids) ≡ (tables_of (ticked h)).spokes
  unfolding tables_of last_tick
  spokes_after =
      let m : u < 64 = omega arith in
      let e : get_or (tabulate 64 (λ s. word_of 32 (hangs h s))) u 0 ≡ word_of 32 (hangs h u) = get_d_tabulate 64 (λ s. word_of 32 (hangs h s)) u 0 m in
      set_tabulate_below 64 (λ s. word_of 32 (hangs h s)) (λ s. word_of 32 (hangs (ticked h) s)) u _ m
      (rw (e, xor_words 32 (hangs h u) (λ i. eqb (left h i) 1)) (word_same 32 _ _ (λ i l. on_next_lem i)))
      (λ s l n. word_same 32 _ _ (λ i k. on_others s i l n))

  turns_table : tabulate 32 (λ i. turn (hangs h u) (turns_now h) (ltb i 32) i) ≡ (tables_of (ticked h)).turns
  unfolding tables_of hangs
  turns_table = tabulate_below 32 _ _ (λ i l. rw (lt-ltb i 32 l, left_ticked h i) (turns_after h.position u g.place next (left h i)))

  spoke_table : tabulate 32 (λ i. home (hangs h u) (turns_now h) (spoke_now h) (ltb i 32) i) ≡ (tables_of (ticked h)).spoke
  unfolding tables_of
  spoke_table = tabulate_below 32 _ _ (λ i l. rw (end_is_one i l, left_ticked h i, position_after) (spoke_after h.position u g.place next (left h i)))

  position_table : u ≡ (tables_of (ticked h)).position
  unfolding tables_of
  position_table = sym position_after

  visits_next : length (among 32 (hangs h u)) ≡ on_next h
  unfolding on_next
  visits_next = ap (λ (s : ℕ). length (among 32 (hangs h s))) next

  -- those that came due taken off, the visits come to the tick
  clears : cleared u (After (tables_of h).spokes u (hangs h u) (turns_now h) (spoke_now h) 32) ≡ record { wheel = made (words_of (ticked h)); due = last_tick h; visits = on_next h }
  unfolding cleared After
  clears =
      let t = tables_after (tables_of h).spokes u (hangs h u) (turns_now h) (spoke_now h) 32 in
      let f = sized_after (tables_of h).spokes u (hangs h u) (turns_now h) (spoke_now h) (sized h).spokes 32 in
      let m : u < 64 = omega arith in
      rw (due_word, word_at t f u m, word_put t f u (bit_xor (get_or (tables_of h).spokes u 0) (last_tick h).ids) m, spokes_after, turns_table, spoke_table)
      (λ x. record {
        wheel = made (laid (with_position (tables_of (ticked h)) (position_table x)));
        due = last_tick h;
        visits = visits_next x;
      })

  -- the timers to visit are those that hang there
  next_members : members 32 (get_or (moved (words_of h)) u 0) ≡ among 32 (hangs h u)
  unfolding moved
  next_members =
      rw (get_or-set_other (words_of h) 128 u (next_at (words_of h)) 0 (λ e. omega arith), spoke_word h u (omega arith)) (members_word 32 (hangs h u))

-- a tick in the words is a tick
pub tick_inside : (h : Hung) → Good h → turned_in (words_of h) ≡ record { wheel = made (words_of (ticked h)); due = last_tick h; visits = on_next h }
unfolding turned_in turned_at
tick_inside h g =
    let u : ℕ = (h.position + 1) % 64 in
    rw (
      moves h g u refl,
      next_members h g u refl,
      moved_there h g u refl,
      begins h g u refl,
      visited_below (tables_of h).spokes u (hangs h u) (turns_now h) (spoke_now h) (sized h).spokes 32 (omega arith),
    )
    (clears h g u refl)
