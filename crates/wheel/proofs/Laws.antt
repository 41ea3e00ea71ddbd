-- What each contract comes to, from what the code makes of any words.
-- Assumes nothing.
use Prim.Native.Nat.{ℕ, ◌<◌}
use mathlib.Core.Path.{◌≡◌, sym, ap, ◌∙◌}
use mathlib.Core.List.{List}
use Rattle.wheel.specs.declared.Wheel.{Wheel}
use Rattle.wheel.specs.declared.Due.{Due}
use Rattle.wheel.specs.declared.Ticked.{Ticked}
use Rattle.wheel.specs.declared.Turned.{Turned}
use Rattle.wheel.specs.Hung.{Hung, Good, left, started, stopped, due}
use Rattle.wheel.specs.Inside.{made, hung_in, taken_in, way_in, turned_in, lowest_off}
use Rattle.wheel.specs.Promise.{wheel_of, started_in, stopped_in, left_in, ticked_in, ticked_of, wheel_in, ticked_with, ids_of, without_first, rest}
use Rattle.wheel.specs.Promise.Opened.{started_is, stopped_is, left_is, ticked_is, words_are, without_is}
use Rattle.wheel.proofs.Promise.{start_hangs, stop_hangs, left_hung, tick_hangs, ids_due}
use Rattle.wheel.proofs.Dues.{rest_ids}

-- what was made of the words k: the words z
module _ (k z : List ℕ) where
  -- a timer started
  pub start_always : (i n : ℕ) → z ≡ hung_in k i n → wheel_in z ≡ started_in (wheel_in k) i n
  start_always i n q = rw (words_are k, words_are z, started_is (made k) i n) (ap made q)

  -- so on a wheel that hangs as ticks left say
  pub start_hung : (i n : ℕ) → wheel_in z ≡ started_in (wheel_in k) i n → (h : Hung) → Good h → wheel_in k ≡ wheel_of h → wheel_in z ≡ wheel_of (started h i n)
  start_hung i n e h g d = e ∙ ap (λ (w : Wheel). started_in w i n) d ∙ start_hangs h g i n

  pub start_promise : (i n : ℕ) → z ≡ hung_in k i n
      → (wheel_in z ≡ started_in (wheel_in k) i n) × ((h : Hung) → Good h → wheel_in k ≡ wheel_of h → wheel_in z ≡ wheel_of (started h i n))
  start_promise i n q = let e = start_always i n q in (e, start_hung i n e)

  -- a timer stopped
  pub stop_always : (i : ℕ) → z ≡ taken_in k i → wheel_in z ≡ stopped_in (wheel_in k) i
  stop_always i q = rw (words_are k, words_are z, stopped_is (made k) i) (ap made q)

  pub stop_hung : (i : ℕ) → wheel_in z ≡ stopped_in (wheel_in k) i → (h : Hung) → Good h → wheel_in k ≡ wheel_of h → wheel_in z ≡ wheel_of (stopped h i)
  stop_hung i e h g d = e ∙ ap (λ (w : Wheel). stopped_in w i) d ∙ stop_hangs h g i

  pub stop_promise : (i : ℕ) → z ≡ taken_in k i
      → (wheel_in z ≡ stopped_in (wheel_in k) i) × ((h : Hung) → Good h → wheel_in k ≡ wheel_of h → wheel_in z ≡ wheel_of (stopped h i))
  stop_promise i q = let e = stop_always i q in (e, stop_hung i e)

  -- a tick
  pub tick_always : (r : Turned) → ticked_with (made z) r ≡ turned_in k → ticked_with (wheel_in z) r ≡ ticked_in (wheel_in k)
  tick_always r q = rw (words_are k, words_are z, ticked_is (made k)) q

  pub tick_hung : (r : Turned) → ticked_with (wheel_in z) r ≡ ticked_in (wheel_in k) → (h : Hung) → Good h → wheel_in k ≡ wheel_of h → ticked_with (wheel_in z) r ≡ ticked_of h
  tick_hung r e h g d = e ∙ ap ticked_in d ∙ tick_hangs h g

  -- and the timers that come due, in order
  pub tick_order : (r : Turned) → ticked_with (wheel_in z) r ≡ ticked_in (wheel_in k) → (h : Hung) → Good h → wheel_in k ≡ wheel_of h → ids_of r.due ≡ due h
  unfolding ticked_of
  tick_order r e h g d = ap (λ (v : Ticked). ids_of v.due) (tick_hung r e h g d) ∙ ids_due h

  pub tick_promise : (r : Turned) → ticked_with (made z) r ≡ turned_in k
      → (ticked_with (wheel_in z) r ≡ ticked_in (wheel_in k))
      × (((h : Hung) → Good h → wheel_in k ≡ wheel_of h → ticked_with (wheel_in z) r ≡ ticked_of h)
      × ((h : Hung) → Good h → wheel_in k ≡ wheel_of h → ids_of r.due ≡ due h))
  tick_promise r q = let e = tick_always r q in (e, (tick_hung r e, tick_order r e))

-- the ticks left, which are read alone
module _ (k : List ℕ) (i r : ℕ) where
  pub left_always : r ≡ way_in k i → r ≡ left_in (wheel_in k) i
  left_always q = rw (words_are k, left_is (made k) i) q

  pub left_hangs : r ≡ left_in (wheel_in k) i → (h : Hung) → Good h → wheel_in k ≡ wheel_of h → r ≡ left h i
  left_hangs e h g d = e ∙ ap (λ (w : Wheel). left_in w i) d ∙ left_hung h g i

  pub left_promise : r ≡ way_in k i → (r ≡ left_in (wheel_in k) i) × ((h : Hung) → Good h → wheel_in k ≡ wheel_of h → r ≡ left h i)
  left_promise q = let e = left_always q in (e, left_hangs e)

-- a set without its lowest id
module _ (d r : Due) where
  pub rest_always : r ≡ lowest_off d → r ≡ without_first d
  rest_always q = q ∙ sym (without_is d)

  pub rest_listed : d.ids < 4294967296 → r ≡ without_first d → ids_of r ≡ rest (ids_of d)
  rest_listed f e = ap ids_of e ∙ rest_ids d f

pub rest_promise : (d : Due) → d.ids < 4294967296 → (r : Due) → r ≡ lowest_off d → (r ≡ without_first d) × (ids_of r ≡ rest (ids_of d))
rest_promise d f r q = let e = rest_always d r q in (e, rest_listed d r f e)
