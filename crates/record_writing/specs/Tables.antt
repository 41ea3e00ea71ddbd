-- The header and the tables of a page's record, as bytes.
-- Assumes nothing.
use Rattle.std.specs.Prelude.{ℕ, ◌+◌, cond, get_or}
use mathlib.Core.List.{List, flatten}
use Rattle.laws.specs.Lists.{tabulate}
use Rattle.value_effects.specs.declared.Mutex.{Mutex}
use Rattle.page.specs.declared.ThreadRow.{ThreadRow}
use Rattle.page.specs.declared.TimerRow.{TimerRow}
use Rattle.page.specs.declared.Page.{Page}
use Rattle.page.specs.Says.{thread_said, mutex_said, timer_said, no_thread_row, no_mutex_row, no_timer_row}
use Rattle.record_bytes.specs.Record.{Header, packed, thread_bytes, mutex_bytes, tie_bytes, timer_bytes}

-- the bytes of n rows from row i on
unfoldable pub table_from : (ℕ → List ℕ) → (n i : ℕ) → List ℕ
table_from row n i = flatten (tabulate n (λ j. row (i + j)))

-- the bytes of a row of each table
abbrev pub thread_row : List ThreadRow → ℕ → List ℕ
thread_row rows t = thread_bytes (thread_said (get_or rows t no_thread_row))

abbrev pub mutex_row : List Mutex → ℕ → List ℕ
mutex_row rows m = mutex_bytes (mutex_said (get_or rows m no_mutex_row))

abbrev pub tie_row : List ℕ → ℕ → List ℕ
tie_row ties c = tie_bytes (get_or ties c 0)

abbrev pub timer_row : List TimerRow → ℕ → List ℕ
timer_row rows i = timer_bytes (timer_said (get_or rows i no_timer_row))

-- the header of a page's record
abbrev pub header_for : Page → Header
header_for x = packed x.threads x.mutexes x.conditions x.timers (cond x.started 1 0) x.count
