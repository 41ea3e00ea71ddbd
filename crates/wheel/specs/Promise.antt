-- What others may cite of the wheel: a name for what each operation makes of any wheel whatever, for the one wheel that hangs as ticks left say, and
-- for the wheel that stands in an array of words.
-- The names are shut: what stands behind them is the wheel's own (Inside.antt), and nothing outside unfolds them. The laws that others cite of
-- them are in proofs/Promise.antt. Opened, below, says what stands behind each, for the wheel's own proofs; docs/check_promises.py refuses it elsewhere.
-- Assumes nothing.
pub mod Opened
use Rattle.std.specs.Prelude.{ℕ, Bool, List, [], ◌∷◌, eqb}
use Rattle.laws.specs.Bits.{members}
use Rattle.laws.specs.Same.{same_list}
use Rattle.wheel.specs.declared.Wheel.{Wheel}
use Rattle.wheel.specs.declared.Due.{Due}
use Rattle.wheel.specs.declared.Ticked.{Ticked}
use Rattle.wheel.specs.declared.Turned.{Turned}
use Rattle.wheel.specs.Hung.{Hung, ticked, on_next}
use Rattle.wheel.specs.Inside.{words_of, made, last_tick, turns_at, spoke_at, position_at, hung_in, taken_in, way_in, turned_in, lowest_off}

-- ---- the wheel

-- the one wheel for a position and the ticks left
pub wheel_of : Hung → Wheel
wheel_of h = made (words_of h)

-- a timer started for a number of ticks
pub started_in : Wheel → ℕ → ℕ → Wheel
started_in w i n = made (hung_in w.words i n)

-- a timer stopped
pub stopped_in : Wheel → ℕ → Wheel
stopped_in w i = made (taken_in w.words i)

-- the ticks left to a timer
pub left_in : Wheel → ℕ → ℕ
left_in w i = way_in w.words i

-- a tick: the next wheel, the timers that came due, and how many were visited
pub ticked_in : Wheel → Ticked
ticked_in w = turned_in w.words

-- the position
pub position_in : Wheel → ℕ
position_in w = position_at w.words

-- whether two wheels are the same
pub same_wheel : Wheel → Wheel → Bool
same_wheel w v = same_list eqb w.words v.words

-- the spoke of a timer
pub spoke_in : Wheel → ℕ → ℕ
spoke_in w i = spoke_at w.words i

-- the turns left to a timer
pub turns_in : Wheel → ℕ → ℕ
turns_in w i = turns_at w.words i

-- ---- a wheel in words

-- the wheel that stands in an array of words
pub wheel_in : List ℕ → Wheel
wheel_in k = made k

-- what a tick gives, with the next wheel beside it
abbrev pub ticked_with : Wheel → Turned → Ticked
ticked_with w r = record { wheel = w; due = r.due; visits = r.visits }

-- ---- the timers that come due

-- the ids of a set of timers, in ascending order
pub ids_of : Due → List ℕ
ids_of d = members 32 d.ids

-- a set without its lowest id
pub without_first : Due → Due
without_first d = lowest_off d

-- the set of the timers that come due at the next tick
pub due_of : Hung → Due
due_of h = last_tick h

-- what a tick gives
unfoldable pub ticked_of : Hung → Ticked
ticked_of h = record { wheel = wheel_of (ticked h); due = due_of h; visits = on_next h }

-- ---- a list of ids

-- the first, or 32 for none
abbrev pub first : List ℕ → ℕ
first [] = 32
first (i ∷ is) = i

-- the others
abbrev pub rest : List ℕ → List ℕ
rest [] = []
rest (i ∷ is) = is
