-- How the clock stands in one array of 33 words: a word for each of the 32 timers, and the tick count at 32. In a timer's word its state is the lowest 8
-- bits, its condition variable the next 8, its length the highest 16. And a change of one part.
-- Assumes nothing.
use Rattle.std.specs.Prelude.{ℕ, ◌/◌, ◌%◌, List, get_or, set}
use Rattle.laws.specs.Lists.{tabulate}
use Rattle.units.specs.Units.{in_ticks}
use Rattle.value_engine.specs.declared.Timer.{Timer}
use Rattle.value_engine.specs.Engines.{no_timer}

-- the rows of the timers, and the tick count
pub record Clock : Type 0 where
  pub timers : List Timer
  pub count : ℕ

-- the two as one
abbrev pub clock_of : List Timer → ℕ → Clock
clock_of rows n = record { timers = rows; count = n }

-- the word at a place
abbrev pub word : List ℕ → ℕ → ℕ
word k i = get_or k i 0

-- the row that a word is
abbrev pub row_in : ℕ → Timer
row_in w = record { state = w % 256; condition = w % 65536 / 256; length = in_ticks (w / 65536) }

-- the row of timer i
abbrev pub timer_in : List ℕ → ℕ → Timer
timer_in k i = row_in (word k i)

-- the whole clock
unfoldable pub clock_in : List ℕ → Clock
clock_in k = clock_of (tabulate 32 (timer_in k)) (word k 32)

-- the row of timer i
abbrev pub timer_of : Clock → ℕ → Timer
timer_of c i = get_or c.timers (i % 32) no_timer

-- with other rows of the timers
abbrev pub with_timers : Clock → List Timer → Clock
with_timers c rows = clock_of rows c.count

-- with another row of timer i
abbrev pub with_timer : Clock → ℕ → Timer → Clock
with_timer c i row = with_timers c (set c.timers (i % 32) row)

-- with another tick count
abbrev pub with_count : Clock → ℕ → Clock
with_count c n = clock_of c.timers n
