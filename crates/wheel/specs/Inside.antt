-- The inside of the wheel, for its own proofs alone: how its tables stand in one array of 129 words, the words for a position and the ticks left, and
-- what each operation does to any words whatever, also to those that no calls make. Promise.antt gives it names that others cannot open.
-- Assumes nothing.
use Rattle.std.specs.Prelude.{ℕ, ◌+◌, ◌-◌, ◌*◌, ◌%◌, ◌^◌, cond, List, [], ◌∷◌, ◌++◌, get_or, set, eqb, ltb, leb}
use Rattle.std.specs.Int.Bits.{bit_and, bit_or, bit_xor}
use Rattle.laws.specs.Lists.{tabulate}
use Rattle.laws.specs.Bits.{word_of, members}
use Rattle.wheel.specs.Hung.{Hung, left, spoke_of, turns_of, hangs}
use Rattle.wheel.specs.declared.Wheel.{Wheel}
use Rattle.wheel.specs.declared.Due.{Due}
use Rattle.wheel.specs.declared.Ticked.{Ticked}

-- ---- the tables

-- the set of the timers on each of the 64 spokes; the turns left to each of the 32 timers, and its spoke, 255 for a stopped one; the position
pub record Tables : Type 0 where
  pub spokes : List ℕ
  pub turns : List ℕ
  pub spoke : List ℕ
  pub position : ℕ

-- their words: the spokes from 0 on, the turns from 64 on, the spokes of the timers from 96 on, and the position at 128
unfoldable pub laid : Tables → List ℕ
laid t = t.spokes ++ (t.turns ++ (t.spoke ++ (t.position ∷ [])))

-- for a position and the ticks left
unfoldable pub tables_of : Hung → Tables
tables_of h =
    record {
      spokes = tabulate 64 (λ s. word_of 32 (hangs h s));
      turns = tabulate 32 (λ i. turns_of (left h i));
      spoke = tabulate 32 (λ i. spoke_of h.position (left h i));
      position = h.position;
    }

-- and their words
abbrev pub words_of : Hung → List ℕ
words_of h = laid (tables_of h)

-- the wheel that has these words
abbrev pub made : List ℕ → Wheel
made k = record { words = k }

-- the set of the timers with one tick left
unfoldable pub last_tick : Hung → Due
last_tick h = record { ids = word_of 32 (λ i. eqb (left h i) 1) }

-- ---- what is read of the words

-- the turns left to the timer i
abbrev pub turns_at : List ℕ → ℕ → ℕ
turns_at k i = get_or k (64 + i) 0

-- the spoke of the timer i
abbrev pub spoke_at : List ℕ → ℕ → ℕ
spoke_at k i = get_or k (96 + i) 0

-- the position
abbrev pub position_at : List ℕ → ℕ
position_at k = get_or k 128 0

-- the spoke after it
abbrev pub next_at : List ℕ → ℕ
next_at k = (position_at k % 64 + 1) % 64

-- ---- the operations

-- the bit of a timer
unfoldable pub bit_of : ℕ → ℕ
bit_of i = cond (leb 32 i) 0 (2 ^ i)

-- the timer i with n ticks left, hung on the spoke s
unfoldable pub hung_on : List ℕ → ℕ → ℕ → ℕ → List ℕ
hung_on k i n s = set (set (set k s (bit_or (get_or k s 0) (bit_of i))) (64 + i) (turns_of n)) (96 + i) s

-- a timer of the 32 that hangs on no spoke is hung n ticks on, if n is not 0
unfoldable pub hung_in : List ℕ → ℕ → ℕ → List ℕ
hung_in k i n =
    cond (leb 32 i) k
    (cond (ltb (spoke_at k i) 64) k
    (cond (eqb n 0) k
    (hung_on k i n ((position_at k % 64 + n) % 64))))

-- the timer i taken off the spoke s
unfoldable pub taken_off : List ℕ → ℕ → ℕ → List ℕ
taken_off k i s = set (set (set k s (bit_xor (get_or k s 0) (bit_of i))) (64 + i) 0) (96 + i) 255

-- a timer of the 32 that hangs on a spoke is taken off it
unfoldable pub taken_in : List ℕ → ℕ → List ℕ
taken_in k i =
    cond (leb 32 i) k
    (cond (leb 64 (spoke_at k i)) k
    (taken_off k i (spoke_at k i)))

-- the ticks left: 64 for each turn, and the way from the position to the spoke, which is 64 for the spoke of the position itself
unfoldable pub way_in : List ℕ → ℕ → ℕ
way_in k i =
    cond (leb 32 i) 0
    (cond (leb 64 (spoke_at k i)) 0
    ((turns_at k i * 64 + (spoke_at k i + 63 - position_at k % 64) % 64 + 1) % 65536))

-- the words in the midst of a tick, who came due so far, and how many timers were visited
abbrev pub midst : List ℕ → ℕ → ℕ → Ticked
midst k d n = record { wheel = made k; due = record { ids = d }; visits = n }

-- the timer i visited: with no turn left it comes due and is stopped, though still on its spoke; else it has a turn less
unfoldable pub visit : Ticked → ℕ → Ticked
visit t i =
    cond (eqb (turns_at t.wheel.words i) 0)
    (midst (set t.wheel.words (96 + i) 255) (bit_or t.due.ids (bit_of i)) (t.visits + 1))
    (midst (set t.wheel.words (64 + i) (turns_at t.wheel.words i - 1)) t.due.ids (t.visits + 1))

-- the timers of a list visited, one after the other
unfoldable pub visited : List ℕ → Ticked → Ticked
visited [] t = t
visited (i ∷ is) t = visited is (visit t i)

-- those that came due taken off the spoke s
unfoldable pub cleared : ℕ → Ticked → Ticked
cleared s t = midst (set t.wheel.words s (bit_xor (get_or t.wheel.words s 0) t.due.ids)) t.due.ids t.visits

-- the wheel at the spoke s visits the timers on it, and takes off those that came due
unfoldable pub turned_at : List ℕ → ℕ → Ticked
turned_at k s = cleared s (visited (members 32 (get_or k s 0)) (midst k 0 0))

-- the wheel moved to the next spoke
unfoldable pub moved : List ℕ → List ℕ
moved k = set k 128 (next_at k)

-- a tick: the wheel moves to the next spoke, and is turned there
unfoldable pub turned_in : List ℕ → Ticked
turned_in k = turned_at (moved k) (next_at k)

-- a set without its lowest id
unfoldable pub lowest_off : Due → Due
lowest_off d = cond (eqb d.ids 0) d (record { ids = bit_and d.ids (d.ids - 1) })
