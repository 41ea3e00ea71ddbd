-- What the wheel is for: a timer started for n ticks comes due at the nth tick and at no other, whatever is done to the others;
-- a stopped one never does; the count's wrap changes nothing. All of it from the promise alone.
-- Assumes nothing.
use Prim.Native.Nat.{ℕ, suc, ◌+◌, ◌-◌, ◌%◌, ◌<◌}
use mathlib.Core.Path.{◌≡◌, refl, sym, ap, ◌∙◌}
use mathlib.Core.Bool.{true, false}
use mathlib.Core.List.{List, [], ◌∷◌}
use native.Mathlib.Omega.{arith}
use lib.Dec.{eqb}
use borrow.Author.Tests.{eq-eqb, ne_eqb, eqb-true, eqb-false, lt-ltb, ltb-true, not-true}
use Rattle.laws.specs.Bits.{has}
use Rattle.laws.proofs.Bools.{by_cases, and_left, and_right}
use Rattle.laws.proofs.Bits.{has_among}
use Rattle.wheel.specs.declared.Wheel.{Wheel}
use Rattle.wheel.specs.declared.Ticked.{Ticked}
use Rattle.wheel.specs.Hung.{Hung, Good, left, empty, free, with_left, started, stopped, ticked, due, spoke_of}
use Rattle.wheel.specs.Promise.{wheel_of, started_in, stopped_in, ticked_of}
use Rattle.wheel.specs.Acts.{Act, Start, Stop, Tick, done, done_in, all, all_in, ticking, ticks, spares, in_range, every, due_next}
use Rattle.wheel.proofs.Lefts.{left_same, left_other, stopped_same}
use Rattle.wheel.proofs.Turning.{on}
use Rattle.wheel.proofs.Promise.{start_hangs, stop_hangs, tick_hangs, left_ticked, ids_due, good_started, good_stopped, good_ticked}

-- ---- one timer among the others

-- an act on another timer leaves this one its ticks
module _ (h : Hung) (i j : ℕ) (o : (i ≡ j → ⊥)) where
  pub started_other : (n : ℕ) → left (started h j n) i ≡ left h i
  unfolding started
  started_other n = by_cases (free h j n) (λ e. rw e (left_other h j n i o)) (λ e. rw e)

  pub stopped_other : left (stopped h j) i ≡ left h i
  unfolding stopped
  stopped_other = left_other h j 0 i o

-- an act costs another timer a tick if it is a tick
left_done : (i : ℕ) (a : Act) (h : Hung) → spares i a ≡ true → left (done h a) i ≡ left h i - ticking a
left_done i (Start j n) h e = started_other h i j (eqb-false i j (not-true (eqb i j) e)) n ∙ omega arith
left_done i (Stop j) h e = stopped_other h i j (eqb-false i j (not-true (eqb i j) e)) ∙ omega arith
left_done i Tick h e = left_ticked h i

-- whatever is done to the others, a timer loses one tick at each tick
pub left_after : (i : ℕ) (acts : List Act) (h : Hung) → every (spares i) acts ≡ true → left (all h acts) i ≡ left h i - ticks acts
left_after i [] h e = omega arith
left_after i (a ∷ acts) h e =
    left_after i acts (done h a) (and_right (spares i a) (every (spares i) acts) e)
    ∙ rw (left_done i a h (and_left (spares i a) (every (spares i) acts) e)) (omega arith)

-- who comes due is known by the ticks left
pub due_one : (h : Hung) (i : ℕ) → i < 32 → has i (due h) ≡ eqb (left h i) 1
unfolding due
due_one h i l = has_among 32 (λ j. eqb (left h j) 1) i l

-- a timer that was stopped has n ticks left once it is started
pub started_left : (h : Hung) → Good h → (i n : ℕ) → i < 32 → left h i ≡ 0 → 0 < n → left (started h i n) i ≡ n
unfolding started
started_left h g i n l e k = rw (lt-ltb i 32 l, e, lt-ltb 0 n k) (left_same h i n (omega (arith, g.timers)))

-- after t ticks one of n is left exactly if the next is the nth
last_one : (n t : ℕ) → eqb (n - t) 1 ≡ eqb (suc t) n
last_one n t = by_cases (eqb (suc t) n)
    (λ e. rw e (eq-eqb (n - t) 1 (omega (arith, eqb-true (suc t) n e))))
    (λ e. rw e (ne_eqb (n - t) 1 (λ z. omega (arith, eqb-false (suc t) n e))))

-- of the ticks left alone: started for n, with anything done to the others, the next tick brings it due exactly if it is the nth
due_exactly : (h : Hung) → Good h → (i n : ℕ) → i < 32 → left h i ≡ 0 → 0 < n
    → (acts : List Act) → every (spares i) acts ≡ true → has i (due (all (started h i n) acts)) ≡ eqb (suc (ticks acts)) n
due_exactly h g i n l e k acts s =
    due_one (all (started h i n) acts) i l
    ∙ rw (left_after i acts (started h i n) s, started_left h g i n l e k) (last_one n (ticks acts))

-- and stopped, with anything done to the others, no tick does
due_never : (h : Hung) → Good h → (i : ℕ) → i < 32 → (acts : List Act) → every (spares i) acts ≡ true → has i (due (all (stopped h i) acts)) ≡ false
unfolding stopped
due_never h g i l acts s =
    due_one (all (stopped h i) acts) i l
    ∙ rw (left_after i acts (stopped h i) s, left_same h i 0 (omega (arith, g.timers))) (ne_eqb (0 - ticks acts) 1 (λ z. omega arith))

-- ---- and on the wheel

-- an act on the wheel and on the ticks left come to the same
good_done : (a : Act) (h : Hung) → Good h → in_range a ≡ true → Good (done h a)
good_done (Start i n) h g e = good_started h g i n (ltb-true n 65536 e)
good_done (Stop i) h g e = good_stopped h g i
good_done Tick h g e = good_ticked h g

done_alike : (a : Act) (h : Hung) → Good h → done_in (wheel_of h) a ≡ wheel_of (done h a)
unfolding ticked_of
done_alike (Start i n) h g = start_hangs h g i n
done_alike (Stop i) h g = stop_hangs h g i
done_alike Tick h g = ap (λ (t : Ticked). t.wheel) (tick_hangs h g)

-- whatever is done, good wheels stay good
pub good_all : (acts : List Act) (h : Hung) → Good h → every in_range acts ≡ true → Good (all h acts)
good_all [] h g e = g
good_all (a ∷ acts) h g e =
    good_all acts (done h a) (good_done a h g (and_left (in_range a) (every in_range acts) e)) (and_right (in_range a) (every in_range acts) e)

-- and the wheel stands for the ticks left
pub all_alike : (acts : List Act) (h : Hung) → Good h → every in_range acts ≡ true → all_in (wheel_of h) acts ≡ wheel_of (all h acts)
all_alike [] h g e = refl
all_alike (a ∷ acts) h g e =
    ap (λ (w : Wheel). all_in w acts) (done_alike a h g)
    ∙ all_alike acts (done h a) (good_done a h g (and_left (in_range a) (every in_range acts) e)) (and_right (in_range a) (every in_range acts) e)

-- who comes due next on the wheel
next_due : (acts : List Act) (h : Hung) → Good h → every in_range acts ≡ true → due_next (all_in (wheel_of h) acts) ≡ due (all h acts)
unfolding ticked_of
next_due acts h g e =
    rw (all_alike acts h g e, tick_hangs (all h acts) (good_all acts h g e)) (ids_due (all h acts))

-- ---- the theorems

-- A stopped timer i is started for n ticks, and then anything is done to the others: the next tick brings i due exactly if it is the nth.
pub comes_due_exactly : (h : Hung) → Good h → (i n : ℕ) → i < 32 → left h i ≡ 0 → 0 < n → n < 65536
    → (acts : List Act) → every (spares i) acts ≡ true → every in_range acts ≡ true
    → has i (due_next (all_in (started_in (wheel_of h) i n) acts)) ≡ eqb (suc (ticks acts)) n
comes_due_exactly h g i n l e k m acts s r =
    rw (start_hangs h g i n, next_due acts (started h i n) (good_started h g i n m) r) (due_exactly h g i n l e k acts s)

-- A timer that is stopped first never comes due, whatever is done to the others.
pub stopped_never_due : (h : Hung) → Good h → (i : ℕ) → i < 32 → (acts : List Act) → every (spares i) acts ≡ true → every in_range acts ≡ true
    → has i (due_next (all_in (stopped_in (wheel_of h) i) acts)) ≡ false
stopped_never_due h g i l acts s r =
    rw (stop_hangs h g i, next_due acts (stopped h i) (good_stopped h g i) r) (due_never h g i l acts s)

-- an act moves the position by a tick if it is a tick
position_done : (a : Act) (h : Hung) → h.position < 64 → (done h a).position ≡ (h.position + ticking a) % 64
unfolding started stopped with_left ticked
position_done (Start i n) h l = by_cases (free h i n) (λ e. rw e (omega arith)) (λ e. rw e (omega arith))
position_done (Stop i) h l = omega arith
position_done Tick h l = refl

-- and a list of acts by their ticks
position_after : (acts : List Act) (h : Hung) → h.position < 64 → (all h acts).position ≡ (h.position + ticks acts) % 64
position_after [] h l = omega arith
position_after (a ∷ acts) h l =
    let p = position_done a h l in
    position_after acts (done h a) (omega arith) ∙ rw p (omega arith)

-- The position is that of the tick count, also when the count goes from 4,294,967,295 to 0; and the ticks left do not turn on it.
pub wrap_changes_nothing : (count : ℕ) (acts : List Act) → (all (empty count) acts).position ≡ ((count + ticks acts) % 4294967296) % 64
unfolding empty
wrap_changes_nothing count acts = position_after acts (empty count) (omega arith) ∙ omega arith

-- A timer that comes due is stopped by the tick and may be started again at once; with 64 it hangs on the spoke just visited, for the 64th tick.
pub again_at_once : (h : Hung) → Good h → (i : ℕ) → i < 32 → has i (due h) ≡ true
    → (left (ticked h) i ≡ 0) × (left (started (ticked h) i 64) i ≡ 64) × (spoke_of (ticked h).position 64 ≡ (ticked h).position)
again_at_once h g i l d =
    let z : left (ticked h) i ≡ 0 = left_ticked h i ∙ rw (eqb-true (left h i) 1 (sym (due_one h i l) ∙ d)) in
    let p = (good_ticked h g).place in
    (z, started_left (ticked h) (good_ticked h g) i 64 l z (omega arith), on (ticked h).position 64 (omega arith) ∙ omega arith)

-- A start that is refused changes nothing: an id out of range, a running timer, no ticks.
pub refused_changes_nothing : (h : Hung) → Good h → (i n : ℕ) → free h i n ≡ false → started_in (wheel_of h) i n ≡ wheel_of h
unfolding started
refused_changes_nothing h g i n e = start_hangs h g i n ∙ rw e

-- Nor does a stop of a stopped timer, or of an id out of range, whose ticks left are 0 too.
pub idle_stop_changes_nothing : (h : Hung) → Good h → (i : ℕ) → left h i ≡ 0 → stopped_in (wheel_of h) i ≡ wheel_of h
idle_stop_changes_nothing h g i e = stop_hangs h g i ∙ ap wheel_of (stopped_same h i e)
