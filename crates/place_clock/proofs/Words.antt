-- Words stored in the array as the change of the clock that they are, what is read there, and that two arrays in which the same clock stands are one.
-- Assumes nothing.
use Prim.Native.Nat.{ℕ, ◌+◌, ◌*◌, ◌/◌, ◌%◌, ◌<◌}
use mathlib.Core.Path.{◌≡◌, sym, ap, ◌∙◌}
use mathlib.Core.List.{List}
use native.Mathlib.Omega.{arith}
use lib.ListN.{length, get_or, set}
use lib.Seq.{get_or-set_same, get_or-set_other, ext_get_or}
use Rattle.laws.specs.Lists.{tabulate}
use Rattle.laws.proofs.Lists.{by_below, tabulate_below, set_tabulate_below, get_d_tabulate, length_tabulate}
use Rattle.units.specs.Units.{in_ticks}
use Rattle.value_engine.specs.declared.Timer.{Timer}
use Rattle.value_engine.specs.Engines.{no_timer}
use Rattle.place_clock.specs.Clock.{Clock, word, row_in, timer_in, clock_in, timer_of, with_timer, with_timers, with_count}

-- what was stored at a place is there
stored : (k : List ℕ) (i v : ℕ) → i < length k → word (set k i v) i ≡ v
stored k i v h = get_or-set_same k i v 0 h

-- and another place is as it was
kept : (k : List ℕ) (i v j : ℕ) → (j ≡ i → ⊥) → word (set k i v) j ≡ word k j
kept k i v j h = get_or-set_other k i j v 0 h

-- ---- what is read

-- the row of timer i
pub timer_read : (k : List ℕ) (i : ℕ) → timer_of (clock_in k) i ≡ timer_in k (i % 32)
unfolding clock_in
timer_read k i = get_d_tabulate 32 (timer_in k) (i % 32) no_timer (omega arith)

-- of one of the 32
pub timer_within : (k : List ℕ) (i : ℕ) → i < 32 → timer_of (clock_in k) i ≡ timer_in k i
timer_within k i l = timer_read k i ∙ ap (timer_in k) (omega arith)

-- how many rows the timers have
pub rows_long : (k : List ℕ) → length (clock_in k).timers ≡ 32
unfolding clock_in
rows_long k = length_tabulate 32 (timer_in k)

-- ---- what a store changes

-- a row of a table that is replaced
pub row_put : (c : Clock) (i : ℕ) → i < 32 → (l : List Timer) (a : Timer) → with_timer (with_timers c l) i a ≡ with_timers c (set l i a)
row_put c i h l a = let e : i % 32 ≡ i = omega arith in rw e

-- the word of a row is read as that row
row_there : (row : Timer) → row.state < 256 → row.condition < 256 → row.length.0 < 65536 → row_in (row.state + row.condition * 256 + row.length.0 * 65536) ≡ row
row_there row fits fits₂ fits₃ = λ d. record { state = state d; condition = condition d; length = in_ticks (long d) }
  where
    w : ℕ
    w = row.state + row.condition * 256 + row.length.0 * 65536

    state : w % 256 ≡ row.state
    state = omega (arith, fits)

    condition : w % 65536 / 256 ≡ row.condition
    condition = omega (arith, fits, fits₂)

    long : w / 65536 ≡ row.length.0
    long = omega (arith, fits, fits₂)

module _ (k : List ℕ) (long : length k ≡ 33) where
  -- the row of timer i
  pub timer_put : (i : ℕ) (row : Timer) → row.state < 256 → row.condition < 256 → row.length.0 < 65536
      → clock_in (set k (i % 32) (row.state + row.condition * 256 + row.length.0 * 65536)) ≡ with_timer (clock_in k) i row
  unfolding clock_in
  timer_put i row fits fits₂ fits₃ = λ d. record { timers = rows d; count = kept k a w 32 (λ e. omega arith) d }
    where
      a : ℕ
      a = i % 32

      w : ℕ
      w = row.state + row.condition * 256 + row.length.0 * 65536

      rows : tabulate 32 (timer_in (set k a w)) ≡ set (tabulate 32 (timer_in k)) a row
      rows = sym (set_tabulate_below 32 (timer_in k) (timer_in (set k a w)) a row (omega arith)
          (sym (ap row_in (stored k a w (omega (arith, long))) ∙ row_there row fits fits₂ fits₃))
          (λ u l o. sym (ap row_in (kept k a w u o))))

  -- the tick count
  pub count_put : (v : ℕ) → clock_in (set k 32 v) ≡ with_count (clock_in k) v
  unfolding clock_in
  count_put v = λ d. record {
    timers = tabulate_below 32 (timer_in (set k 32 v)) (timer_in k) (λ i l. ap row_in (kept k 32 v i (λ e. omega arith))) d;
    count = stored k 32 v (omega (arith, long)) d;
  }

-- ---- one array

-- two words that are the same row are one
word_once : (v w : ℕ) → row_in v ≡ row_in w → v ≡ w
word_once v w e =
    let state : v % 256 ≡ w % 256 = ap (λ (r : Timer). r.state) e in
    let condition : v % 65536 / 256 ≡ w % 65536 / 256 = ap (λ (r : Timer). r.condition) e in
    let long : v / 65536 ≡ w / 65536 = ap (λ (r : Timer). r.length.0) e in
    omega (arith, state, condition, long)

-- two arrays of 33 words in which the same clock stands are one
pub clock_once : (k z : List ℕ) → length k ≡ 33 → length z ≡ 33 → clock_in k ≡ clock_in z → k ≡ z
unfolding clock_in
clock_once k z l m e = ext_get_or 0 k z (l ∙ sym m) (λ i h. by_below i 32
    (λ low. word_once (word k i) (word z i) (sym (get_d_tabulate 32 (timer_in k) i no_timer low) ∙ ap (λ (c : Clock). get_or c.timers i no_timer) e ∙ get_d_tabulate 32 (timer_in z) i no_timer low))
    (λ high. let last : i ≡ 32 = omega (arith, h, l) in rw last (ap (λ (c : Clock). c.count) e)))
