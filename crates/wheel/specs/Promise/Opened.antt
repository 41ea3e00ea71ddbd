-- What stands behind each shut name of the promise, for the wheel's own proofs alone: no other crate imports this file.
-- Assumes nothing.
use Rattle.std.specs.Prelude.{ℕ, ◌≡◌, List, eqb}
use Rattle.std.proofs.Math.Path.{refl}
use Rattle.laws.specs.Bits.{members}
use Rattle.laws.specs.Same.{same_list}
use Rattle.wheel.specs.declared.Wheel.{Wheel}
use Rattle.wheel.specs.declared.Due.{Due}
use Rattle.wheel.specs.Hung.{Hung}
use Rattle.wheel.specs.Inside.{words_of, made, last_tick, turns_at, spoke_at, position_at, hung_in, taken_in, way_in, turned_in, lowest_off}
use Rattle.wheel.specs.Promise.{wheel_of, started_in, stopped_in, left_in, ticked_in, position_in, same_wheel, spoke_in, turns_in, wheel_in, ids_of, without_first, due_of}

-- of the wheel
pub wheel_is : (h : Hung) → wheel_of h ≡ made (words_of h)
unfolding wheel_of
wheel_is h = refl

module _ (w : Wheel) where
  pub started_is : (i n : ℕ) → started_in w i n ≡ made (hung_in w.words i n)
  unfolding started_in
  started_is i n = refl

  pub stopped_is : (i : ℕ) → stopped_in w i ≡ made (taken_in w.words i)
  unfolding stopped_in
  stopped_is i = refl

  pub left_is : (i : ℕ) → left_in w i ≡ way_in w.words i
  unfolding left_in
  left_is i = refl

  pub ticked_is : ticked_in w ≡ turned_in w.words
  unfolding ticked_in
  ticked_is = refl

  pub position_is : position_in w ≡ position_at w.words
  unfolding position_in
  position_is = refl

  pub same_is : (v : Wheel) → same_wheel w v ≡ same_list eqb w.words v.words
  unfolding same_wheel
  same_is v = refl

  pub spoke_is : (i : ℕ) → spoke_in w i ≡ spoke_at w.words i
  unfolding spoke_in
  spoke_is i = refl

  pub turns_are : (i : ℕ) → turns_in w i ≡ turns_at w.words i
  unfolding turns_in
  turns_are i = refl

-- of a wheel in words
pub words_are : (k : List ℕ) → wheel_in k ≡ made k
unfolding wheel_in
words_are k = refl

-- of the timers that come due
module _ (d : Due) where
  pub ids_are : ids_of d ≡ members 32 d.ids
  unfolding ids_of
  ids_are = refl

  pub without_is : without_first d ≡ lowest_off d
  unfolding without_first
  without_is = refl

pub due_is : (h : Hung) → due_of h ≡ last_tick h
unfolding due_of
due_is h = refl
