-- What the wheel promises, with nothing of its inside: each timer's ticks left, 0 for a stopped one, who comes due at a tick, and on which spoke
-- a timer hangs.
-- Assumes nothing.
use Rattle.std.specs.Prelude.{ℕ, ◌+◌, ◌-◌, ◌/◌, ◌%◌, ◌<◌, ◌≡◌, Bool, cond, ◌&&◌, List, map, length, get_or, set, replicate, eqb, ltb}
use Rattle.laws.specs.Lists.{tabulate, among}

-- the tick count mod 64, and the ticks left to each timer in order of id
pub record Hung : Type 0 where
  pub position : ℕ
  pub lefts : List ℕ

-- the ticks left to a timer
abbrev pub left : Hung → ℕ → ℕ
left h i = get_or h.lefts i 0

-- 32 timers, each with at most 65,535 ticks left, at one of 64 positions
pub record Good (h : Hung) : Type 0 where
  pub place : h.position < 64
  pub timers : length h.lefts ≡ 32
  pub short : (i : ℕ) → left h i < 65536

-- every timer stopped, at a tick count
unfoldable pub empty : ℕ → Hung
empty count = record { position = count % 64; lefts = replicate 32 0 }

-- a timer may be started if it is one of the 32 and stopped, and n is not 0
abbrev pub free : Hung → ℕ → ℕ → Bool
free h i n = ltb i 32 && eqb (left h i) 0 && ltb 0 n

-- the timer with r ticks left, and the others as they were
unfoldable pub with_left : Hung → ℕ → ℕ → Hung
with_left h i r = record { position = h.position; lefts = set h.lefts i r }

-- a timer started for n ticks, or nothing changed
unfoldable pub started : Hung → ℕ → ℕ → Hung
started h i n = cond (free h i n) (with_left h i n) h

-- a timer stopped
unfoldable pub stopped : Hung → ℕ → Hung
stopped h i = with_left h i 0

-- a tick: every running timer has one tick less; with none left it is stopped
unfoldable pub ticked : Hung → Hung
ticked h = record { position = (h.position + 1) % 64; lefts = map (λ (r : ℕ). r - 1) h.lefts }

-- who comes due at the next tick, in order of id: those with one tick left
unfoldable pub due : Hung → List ℕ
due h = among 32 (λ i. eqb (left h i) 1)

-- ---- a row of ticks left

-- the ticks left of a timer of a row if it is seen, and none if not
abbrev pub given : List ℕ → Bool → ℕ → ℕ
given row seen i = cond seen (get_or row i 0) 0

-- the timers below k hung as in the row, the others stopped
abbrev pub filled : ℕ → List ℕ → ℕ → Hung
filled p row k = record { position = p; lefts = tabulate 32 (λ i. given row (ltb i k) i) }

-- ---- spokes and turns

-- at tick count t, mod 64, a timer with r ticks left hangs on spoke (t + r) mod 64, and a stopped one on none, which is written 255
unfoldable pub spoke_of : ℕ → ℕ → ℕ
spoke_of t r = cond (eqb r 0) 255 ((t + r) % 64)

-- and it has (r - 1) div 64 turns left
unfoldable pub turns_of : ℕ → ℕ
turns_of r = (r - 1) / 64

-- the timer i hangs on the spoke s
unfoldable pub hangs : Hung → ℕ → ℕ → Bool
hangs h s i = eqb (spoke_of h.position (left h i)) s

-- how many timers hang on the next spoke
unfoldable pub on_next : Hung → ℕ
on_next h = length (among 32 (hangs h ((h.position + 1) % 64)))
