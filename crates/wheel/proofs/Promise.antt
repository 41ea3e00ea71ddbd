-- The wheel's promise, as laws of the names of specs/Promise.antt: what start, stop, a tick and the ticks left come to on a wheel that hangs as ticks
-- left say, who comes due and in which order, that good ticks left stay good, and when two wheels are one, or the words that they stand in.
-- Whoever uses the wheel cites these and nothing else of its proofs.
-- Assumes nothing.
use Prim.Native.Nat.{ℕ, suc, ◌-◌, ◌%◌, ◌<◌, ◌≤◌}
use mathlib.Core.Path.{◌≡◌, sym, ap, ◌∙◌}
use mathlib.Core.Logic.{◌↔◌}
use mathlib.Core.Bool.{true}
use mathlib.Core.List.{List}
use native.Mathlib.Omega.{arith}
use lib.ListN.{length, get_or}
use lib.Seq.{ext_get_or}
use lib.Dec.{eqb}
use Rattle.laws.specs.Bits.{holds}
use Rattle.laws.proofs.Bits.{members_word, among_length}
use Rattle.laws.proofs.Same.{exactly}
use Rattle.wheel.specs.declared.Wheel.{Wheel}
use Rattle.wheel.specs.declared.Due.{Due}
use Rattle.wheel.specs.declared.Ticked.{Ticked}
use Rattle.wheel.specs.declared.Turned.{Turned}
use Rattle.wheel.specs.Hung.{Hung, Good, left, empty, started, stopped, ticked, due, filled, spoke_of, turns_of}
use Rattle.wheel.specs.Inside.{made, last_tick, turns_at, spoke_at, position_at, hung_in, taken_in, way_in, turned_in}
use Rattle.wheel.specs.Promise.{wheel_of, started_in, stopped_in, left_in, ticked_in, ticked_of, position_in, same_wheel, spoke_in, turns_in, wheel_in, ticked_with, ids_of, due_of}
use Rattle.wheel.specs.Promise.Opened.{wheel_is, started_is, stopped_is, left_is, ticked_is, position_is, same_is, spoke_is, turns_are, words_are, ids_are, due_is}
use Rattle.wheel.proofs.Lefts as lefts
use Rattle.wheel.proofs.Hanging.{start_inside, stop_inside, left_inside, position_at_lem, spoke_at_lem, turns_at_lem}
use Rattle.wheel.proofs.Ticking.{tick_inside}
use Rattle.wheel.proofs.Filling as filling
use Rattle.wheel.proofs.Same.{wheels}

-- ---- ticks left

-- all timers stopped are good
pub good_empty : (count : ℕ) → Good (empty count)
good_empty count = lefts.good_empty count

-- and good ones stay good
module _ (h : Hung) (g : Good h) where
  pub good_started : (i n : ℕ) → n < 65536 → Good (started h i n)
  good_started i n l = lefts.good_started h g i n l

  pub good_stopped : (i : ℕ) → Good (stopped h i)
  good_stopped i = lefts.good_stopped h g i

  pub good_ticked : Good (ticked h)
  good_ticked = lefts.good_ticked h g

-- every running timer has one tick less after a tick
pub left_ticked : (h : Hung) (i : ℕ) → left (ticked h) i ≡ left h i - 1
left_ticked h i = lefts.left_ticked h i

-- from all stopped, the timers of a row are started one after the other, also where the row has 0
pub fill_none : (count : ℕ) (row : List ℕ) → filled (count % 64) row 0 ≡ empty count
fill_none count row = filling.fill_none count row

pub fill_next : (p : ℕ) (row : List ℕ) (k : ℕ) → k < 32 → started (filled p row k) k (get_or row k 0) ≡ filled p row (suc k)
fill_next p row k l = filling.fill_next p row k l

-- ---- a wheel that hangs as ticks left say

module _ (h : Hung) (g : Good h) where
  -- a timer started
  pub start_hangs : (i n : ℕ) → started_in (wheel_of h) i n ≡ wheel_of (started h i n)
  start_hangs i n = started_is (wheel_of h) i n ∙ ap (λ (w : Wheel). made (hung_in w.words i n)) (wheel_is h) ∙ ap made (start_inside h g i n) ∙ sym (wheel_is (started h i n))

  -- a timer stopped
  pub stop_hangs : (i : ℕ) → stopped_in (wheel_of h) i ≡ wheel_of (stopped h i)
  stop_hangs i = stopped_is (wheel_of h) i ∙ ap (λ (w : Wheel). made (taken_in w.words i)) (wheel_is h) ∙ ap made (stop_inside h g i) ∙ sym (wheel_is (stopped h i))

  -- the ticks left
  pub left_hung : (i : ℕ) → left_in (wheel_of h) i ≡ left h i
  left_hung i = left_is (wheel_of h) i ∙ ap (λ (w : Wheel). way_in w.words i) (wheel_is h) ∙ left_inside h g i

  -- a tick
  pub tick_hangs : ticked_in (wheel_of h) ≡ ticked_of h
  unfolding ticked_of
  tick_hangs = ticked_is (wheel_of h) ∙ ap (λ (w : Wheel). turned_in w.words) (wheel_is h) ∙ tick_inside h g ∙ rw (wheel_is (ticked h), due_is h)

module _ (h : Hung) where
  -- the position
  pub position_hung : position_in (wheel_of h) ≡ h.position
  position_hung = position_is (wheel_of h) ∙ ap (λ (w : Wheel). position_at w.words) (wheel_is h) ∙ position_at_lem h

  -- the spoke of a timer
  pub spoke_hung : (i : ℕ) → i < 32 → spoke_in (wheel_of h) i ≡ spoke_of h.position (left h i)
  spoke_hung i l = spoke_is (wheel_of h) i ∙ ap (λ (w : Wheel). spoke_at w.words i) (wheel_is h) ∙ spoke_at_lem h i l

  -- the turns left to a timer
  pub turns_hung : (i : ℕ) → i < 32 → turns_in (wheel_of h) i ≡ turns_of (left h i)
  turns_hung i l = turns_are (wheel_of h) i ∙ ap (λ (w : Wheel). turns_at w.words i) (wheel_is h) ∙ turns_at_lem h i l

-- ---- who comes due

-- those with one tick left, in order of id
pub ids_due : (h : Hung) → ids_of (due_of h) ≡ due h
unfolding last_tick due
ids_due h = ids_are (due_of h) ∙ rw (due_is h) (members_word 32 (λ i. eqb (left h i) 1))

-- they are at most 32
pub ids_few : (d : Due) → length (ids_of d) ≤ 32
ids_few d = rw (ids_are d) (among_length 32 (λ i. holds i d.ids))

-- ---- when two wheels are one

-- the test tells
pub same_exactly : (w v : Wheel) → (same_wheel w v ≡ true) ↔ (w ≡ v)
same_exactly w v = exactly wheels w v (same_wheel w v) (same_is w v)

-- words stand for one wheel each, whole: no bit of them is left open
pub words_once : (k z : List ℕ) → wheel_in k ≡ wheel_in z → k ≡ z
words_once k z e = ap (λ (w : Wheel). w.words) (sym (words_are k) ∙ e ∙ words_are z)

-- and so does what a tick leaves of them, with what it gives
pub turned_once : (k z : List ℕ) (r q : Turned) → ticked_with (wheel_in k) r ≡ ticked_with (wheel_in z) q → (k ≡ z) × (r ≡ q)
turned_once k z r q e = (words_once k z (ap (λ (t : Ticked). t.wheel) e), λ i. record { due = (e i).due; visits = (e i).visits })

-- a good wheel tells its position and its ticks left
told : (h k : Hung) → Good h → Good k → position_in (wheel_of h) ≡ position_in (wheel_of k)
    → ((i : ℕ) → i < 32 → left_in (wheel_of h) i ≡ left_in (wheel_of k) i) → h ≡ k
told h k g f p e =
    let r : h.position ≡ k.position = sym (position_hung h) ∙ p ∙ position_hung k in
    let at : (i : ℕ) → i < length h.lefts → left h i ≡ left k i =
    λ i l. sym (left_hung h g i) ∙ e i (omega (arith, g.timers)) ∙ left_hung k f i in
    let q : h.lefts ≡ k.lefts = ext_get_or 0 h.lefts k.lefts (g.timers ∙ sym f.timers) at in
    λ x. record { position = r x; lefts = q x }

-- Two good wheels with the same position and the same ticks left are the same value.
pub same_ticks_left_same_wheel : (h k : Hung) → Good h → Good k → position_in (wheel_of h) ≡ position_in (wheel_of k)
    → ((i : ℕ) → i < 32 → left_in (wheel_of h) i ≡ left_in (wheel_of k) i) → wheel_of h ≡ wheel_of k
same_ticks_left_same_wheel h k g f p e = ap wheel_of (told h k g f p e)

-- And a wheel stands for one position and one row of ticks left.
pub same_wheel_same_ticks_left : (h k : Hung) → Good h → Good k → wheel_of h ≡ wheel_of k → h ≡ k
same_wheel_same_ticks_left h k g f e = told h k g f (ap position_in e) (λ i l. ap (λ (w : Wheel). left_in w i) e)
