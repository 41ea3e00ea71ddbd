-- What a buffer holds: the page that is read from its bytes at the places where packed tables stand, and the tests of right form as the code
-- has them.
-- Assumes nothing.
use Rattle.std.specs.Prelude.{Option, Some, None}
use Rattle.std.specs.Prelude.{ℕ, ◌+◌, ◌*◌, Bool, cond, not, ◌&&◌, List, [], ◌∷◌, length, eqb, ltb, leb}
use Rattle.laws.specs.Lists.{tabulate}
use Rattle.units.specs.Units.{outside}
use Rattle.rules.specs.State as state
use Rattle.rules.specs.State.{no_mutex}
use Rattle.rules.specs.Sound.{all, each}
use Rattle.rules.specs.Page as rules
use Rattle.rules.specs.Page.{no_row}
use Rattle.value_effects.specs.declared.Mutex.{Mutex}
use Rattle.page.specs.declared.ThreadRow.{ThreadRow}
use Rattle.page.specs.declared.TimerRow.{TimerRow}
use Rattle.page.specs.declared.Page.{Page}
use Rattle.page.specs.Says.{thread_for, mutex_for, timer_for, stopped_timer_row, page_for}
use Rattle.record_bytes.specs.Record.{byte, word_at, page_in, formed}

-- ---- rows at a place

-- of a thread
abbrev pub thread_at : List ℕ → ℕ → rules.ThreadRow
thread_at bytes at = record { base = byte bytes at; state = byte bytes (at + 1); object = byte bytes (at + 2); place = byte bytes (at + 3) }

-- of a mutex
abbrev pub mutex_at : List ℕ → ℕ → state.Mutex
mutex_at bytes at = record { ceiling = byte bytes at; owner = byte bytes (at + 1); count = byte bytes (at + 2) }

-- of a timer
abbrev pub timer_at : List ℕ → ℕ → rules.TimerRow
timer_at bytes at = record { state = byte bytes at; condition = byte bytes (at + 1); length = word_at bytes (at + 2); left = word_at bytes (at + 4) }

-- ---- rows of a table of n rows at a place, blank past them

-- thread t
abbrev pub thread_or : List ℕ → (at n t : ℕ) → ThreadRow
thread_or bytes at n t = cond (ltb t n) (thread_for (thread_at bytes (at + 4 * t))) (thread_for no_row)

-- mutex m
abbrev pub mutex_or : List ℕ → (at n m : ℕ) → Mutex
mutex_or bytes at n m = cond (ltb m n) (mutex_for (mutex_at bytes (at + 4 * m))) (mutex_for no_mutex)

-- condition variable c
abbrev pub tie_or : List ℕ → (at n c : ℕ) → ℕ
tie_or bytes at n c = cond (ltb c n) (byte bytes (at + 4 * c)) 255

-- timer i
abbrev pub timer_or : List ℕ → (at n i : ℕ) → TimerRow
timer_or bytes at n i = cond (ltb i n) (timer_for (timer_at bytes (at + 8 * i))) (timer_for stopped_timer_row)

-- the page of so many threads, mutexes, condition variables and timers
unfoldable pub read_model : List ℕ → (t m c i : ℕ) → Page
read_model bytes t m c i = record {
  started = eqb (word_at bytes 18) 1;
  count = word_at bytes 20 + 65536 * word_at bytes 22;
  threads = t;
  mutexes = m;
  conditions = c;
  timers = i;
  threadrows = tabulate 32 (thread_or bytes 24 t);
  mutexrows = tabulate 16 (mutex_or bytes (24 + 4 * t) m);
  ties = tabulate 16 (tie_or bytes (24 + 4 * t + 4 * m) c);
  timerrows = tabulate 32 (timer_or bytes (24 + 4 * t + 4 * m + 4 * c) i);
}

-- ---- what a buffer holds

-- of right form: the page for what it says; of wrong form none
unfoldable pub open_model : List ℕ → Option Page
open_model bytes = cond (formed bytes) (Some (page_for (page_in bytes))) None

-- ---- tests

-- the counts fit
abbrev pub fitting : (t m c i : ℕ) → Bool
fitting t m c i = all (not (outside 1 32 t) ∷ leb m 16 ∷ leb c 16 ∷ leb i 32 ∷ [])

-- two lists have the same first n bytes
abbrev pub agree : ℕ → List ℕ → List ℕ → Bool
agree n one other = each n (λ i. eqb (byte one i) (byte other i))

-- two lists are the same, the other of at most 536 bytes
unfoldable pub same_bytes : List ℕ → List ℕ → Bool
same_bytes one other = leb (length other) 536 && (eqb (length one) (length other) && agree (length other) one other)
