-- Things done to a wheel one after the other, for the theorems that speak of any number of them.
-- Assumes nothing.
use Rattle.std.specs.Prelude.{ℕ, ◌+◌, Bool, true, not, ◌&&◌, List, [], ◌∷◌, eqb, ltb}
use Rattle.wheel.specs.declared.Wheel.{Wheel}
use Rattle.wheel.specs.Hung.{Hung, started, stopped, ticked}
use Rattle.wheel.specs.Promise.{started_in, stopped_in, ticked_in, ids_of}

-- a timer started for a number of ticks, a timer stopped, a tick
pub data Act : Type 0 where
  Start : ℕ → ℕ → Act
  Stop : ℕ → Act
  Tick : Act

-- what an act makes of the ticks left
abbrev pub done : Hung → Act → Hung
done h (Start i n) = started h i n
done h (Stop i) = stopped h i
done h Tick = ticked h

-- what an act makes of a wheel
abbrev pub done_in : Wheel → Act → Wheel
done_in w (Start i n) = started_in w i n
done_in w (Stop i) = stopped_in w i
done_in w Tick = (ticked_in w).wheel

-- all of them, the first first
abbrev pub all : Hung → List Act → Hung
all h [] = h
all h (a ∷ acts) = all (done h a) acts

-- and all of them on a wheel
abbrev pub all_in : Wheel → List Act → Wheel
all_in w [] = w
all_in w (a ∷ acts) = all_in (done_in w a) acts

-- how many ticks an act is
abbrev pub ticking : Act → ℕ
ticking (Start i n) = 0
ticking (Stop i) = 0
ticking Tick = 1

-- and a list of them
abbrev pub ticks : List Act → ℕ
ticks [] = 0
ticks (a ∷ acts) = ticking a + ticks acts

-- an act neither starts nor stops the timer i
abbrev pub spares : ℕ → Act → Bool
spares i (Start j n) = not (eqb i j)
spares i (Stop j) = not (eqb i j)
spares i Tick = true

-- an act starts no timer for more than 65,535 ticks
abbrev pub in_range : Act → Bool
in_range (Start i n) = ltb n 65536
in_range (Stop i) = true
in_range Tick = true

-- each act of a list is so
abbrev pub every : (Act → Bool) → List Act → Bool
every p [] = true
every p (a ∷ acts) = p a && every p acts

-- who the next tick of a wheel brings due, in order of id
abbrev pub due_next : Wheel → List ℕ
due_next w = ids_of (ticked_in w).due
