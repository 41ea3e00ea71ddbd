-- The saved record as bytes: how a page is written, when a buffer is of right form, and how its rows are read.
-- Assumes nothing.
use Rattle.std.specs.Prelude.{ℕ, zero, suc, ◌+◌, ◌*◌, ◌/◌, ◌%◌, ◌<◌, Bool, cond, not, ◌&&◌, length, get_or, take, drop, eqb, leb}
use mathlib.Core.List.{List, [], ◌∷◌, ◌++◌, map, flatten}
use Rattle.units.specs.Units.{outside}
use Rattle.rules.specs.State.{Mutex}
use Rattle.rules.specs.Sound.{all}
use Rattle.rules.specs.Page.{ThreadRow, TimerRow, Page, each_row, page_formed}

-- each number of the list is a byte
abbrev pub AreBytes : List ℕ → Type 0
AreBytes bytes = (i : ℕ) → get_or bytes i 0 < 256

-- the byte at place i
abbrev pub byte : List ℕ → ℕ → ℕ
byte bytes i = get_or bytes i 0

-- a number of 16 bits, low byte first
abbrev pub word : ℕ → List ℕ
word n = n % 256 ∷ n / 256 ∷ []

-- the number of 16 bits at place i
abbrev pub word_at : List ℕ → ℕ → ℕ
word_at bytes i = byte bytes i + 256 * byte bytes (suc i)

-- ---- the header

-- counts, offsets, total length, started and the tick count
pub record Header : Type 0 where
  pub threads : ℕ
  pub mutexes : ℕ
  pub conditions : ℕ
  pub timers : ℕ
  pub threads_at : ℕ
  pub mutexes_at : ℕ
  pub conditions_at : ℕ
  pub timers_at : ℕ
  pub total : ℕ
  pub started : ℕ
  pub count : ℕ

-- the header of tables that follow without gaps: the header has 24 bytes, a thread, a mutex and a condition variable 4, a timer 8
abbrev pub packed : (threads mutexes conditions timers started count : ℕ) → Header
packed t m c i started count = record {
  threads = t;
  mutexes = m;
  conditions = c;
  timers = i;
  threads_at = 24;
  mutexes_at = 24 + 4 * t;
  conditions_at = 24 + 4 * t + 4 * m;
  timers_at = 24 + 4 * t + 4 * m + 4 * c;
  total = 24 + 4 * t + 4 * m + 4 * c + 8 * i;
  started = started;
  count = count;
}

-- its numbers of 16 bits; the tick count is two of them, the low one first
abbrev pub header_words : Header → List ℕ
header_words h =
    h.threads ∷ h.mutexes ∷ h.conditions ∷ h.timers
    ∷ h.threads_at ∷ h.mutexes_at ∷ h.conditions_at ∷ h.timers_at
    ∷ h.total ∷ h.started ∷ h.count % 65536 ∷ h.count / 65536 ∷ []

-- 24 bytes
unfoldable pub header_bytes : Header → List ℕ
header_bytes h = flatten (map word (header_words h))

-- the header that a buffer begins with
unfoldable pub header_in : List ℕ → Header
header_in bytes = record {
  threads = word_at bytes 0;
  mutexes = word_at bytes 2;
  conditions = word_at bytes 4;
  timers = word_at bytes 6;
  threads_at = word_at bytes 8;
  mutexes_at = word_at bytes 10;
  conditions_at = word_at bytes 12;
  timers_at = word_at bytes 14;
  total = word_at bytes 16;
  started = word_at bytes 18;
  count = word_at bytes 20 + 65536 * word_at bytes 22;
}

-- ---- the rows

-- a thread: base, state, object waited for or 255, place in its queue
abbrev pub thread_bytes : ThreadRow → List ℕ
thread_bytes x = x.base ∷ x.state ∷ x.object ∷ x.place ∷ []

-- and read
abbrev pub thread_in : List ℕ → ThreadRow
thread_in row = record { base = byte row 0; state = byte row 1; object = byte row 2; place = byte row 3 }

-- a mutex: ceiling, owner or 255, count, 0
abbrev pub mutex_bytes : Mutex → List ℕ
mutex_bytes x = x.ceiling ∷ x.owner ∷ x.count ∷ 0 ∷ []

-- and read
abbrev pub mutex_in : List ℕ → Mutex
mutex_in row = record { ceiling = byte row 0; owner = byte row 1; count = byte row 2 }

-- a condition variable: tied mutex or 255, then three zeros
abbrev pub tie_bytes : ℕ → List ℕ
tie_bytes tied = tied ∷ 0 ∷ 0 ∷ 0 ∷ []

-- and read
abbrev pub tie_in : List ℕ → ℕ
tie_in row = byte row 0

-- a timer: state, condition variable or 255, then n, ticks left and 0 of 16 bits each
abbrev pub timer_bytes : TimerRow → List ℕ
timer_bytes x = x.state ∷ x.condition ∷ word x.length ++ word x.left ++ word 0

-- and read
abbrev pub timer_in : List ℕ → TimerRow
timer_in row = record { state = byte row 0; condition = byte row 1; length = word_at row 2; left = word_at row 4 }

-- ---- a page written

-- the header of a page's record
unfoldable pub header_of : Page → Header
header_of p = packed (length p.threads) (length p.mutexes) (length p.ties) (length p.timers) (cond p.started 1 0) p.count

-- the record: the header, then the tables without gaps
unfoldable pub record_of : Page → List ℕ
record_of p =
    header_bytes (header_of p)
    ++ (flatten (map thread_bytes p.threads)
    ++ (flatten (map mutex_bytes p.mutexes)
    ++ (flatten (map tie_bytes p.ties)
    ++ flatten (map timer_bytes p.timers))))

-- ---- a buffer read

-- n rows of a width, from the first byte on
unfoldable pub cut_rows : (width n : ℕ) → List ℕ → List (List ℕ)
cut_rows width zero bytes = []
cut_rows width (suc n) bytes = take width bytes ∷ cut_rows width n (drop width bytes)

-- the table of threads, at its offset
abbrev pub thread_rows : List ℕ → List (List ℕ)
thread_rows bytes = cut_rows 4 (header_in bytes).threads (drop (header_in bytes).threads_at bytes)

-- of mutexes
abbrev pub mutex_rows : List ℕ → List (List ℕ)
mutex_rows bytes = cut_rows 4 (header_in bytes).mutexes (drop (header_in bytes).mutexes_at bytes)

-- of condition variables
abbrev pub condition_rows : List ℕ → List (List ℕ)
condition_rows bytes = cut_rows 4 (header_in bytes).conditions (drop (header_in bytes).conditions_at bytes)

-- of timers
abbrev pub timer_rows : List ℕ → List (List ℕ)
timer_rows bytes = cut_rows 8 (header_in bytes).timers (drop (header_in bytes).timers_at bytes)

-- the page that a buffer of right form holds
unfoldable pub page_in : List ℕ → Page
page_in bytes = record {
  started = eqb (header_in bytes).started 1;
  count = (header_in bytes).count;
  threads = map thread_in (thread_rows bytes);
  mutexes = map mutex_in (mutex_rows bytes);
  ties = map tie_in (condition_rows bytes);
  timers = map timer_in (timer_rows bytes);
}

-- ---- wrong form: each test holds where its clause of wrong form does not

-- not: a buffer under 24 bytes or unequal to the total
abbrev pub whole : List ℕ → Bool
whole bytes = leb 24 (length bytes) && eqb (length bytes) (header_in bytes).total

-- not: a count over its limit or no thread
abbrev pub counts_fit : Header → List Bool
counts_fit h = not (outside 1 32 h.threads) ∷ leb h.mutexes 16 ∷ leb h.conditions 16 ∷ leb h.timers 32 ∷ []

-- not: offsets other than packed, where the total length is the offset of what would follow the tables
abbrev pub offsets_fit : Header → List Bool
offsets_fit h =
    let p = packed h.threads h.mutexes h.conditions h.timers h.started h.count in
    eqb h.threads_at p.threads_at
    ∷ eqb h.mutexes_at p.mutexes_at
    ∷ eqb h.conditions_at p.conditions_at
    ∷ eqb h.timers_at p.timers_at
    ∷ eqb h.total p.total ∷ []

-- not: a zero byte not zero, in a mutex
abbrev pub mutex_zero : List ℕ → Bool
mutex_zero row = eqb (byte row 3) 0

-- in a condition variable
abbrev pub condition_zero : List ℕ → Bool
condition_zero row = eqb (byte row 1) 0 && eqb (byte row 2) 0 && eqb (byte row 3) 0

-- in a timer
abbrev pub timer_zero : List ℕ → Bool
timer_zero row = eqb (byte row 6) 0 && eqb (byte row 7) 0

-- in any row
abbrev pub zeros_fit : List ℕ → List Bool
zeros_fit bytes = each_row mutex_zero (mutex_rows bytes) ∷ each_row condition_zero (condition_rows bytes) ∷ each_row timer_zero (timer_rows bytes) ∷ []

-- the clauses in the document's order; the fourth is started above 1, the last a thread state not 1 to 4 or a timer state above 2
abbrev pub right_form : List ℕ → List Bool
right_form bytes =
    whole bytes
    ∷ all (counts_fit (header_in bytes))
    ∷ all (offsets_fit (header_in bytes))
    ∷ leb (header_in bytes).started 1
    ∷ all (zeros_fit bytes)
    ∷ page_formed (page_in bytes) ∷ []

-- right form: no clause of wrong form is so
unfoldable pub formed : List ℕ → Bool
formed bytes = all (right_form bytes)

-- ---- the boot record, whole

-- 01 00 00 00 00 00 00 00 18 00 1C 00 1C 00 1C 00 1C 00 00 00 00 00 00 00 00 01 FF 00
abbrev pub boot_record : List ℕ
boot_record =
    1 ∷ 0 ∷ 0 ∷ 0 ∷ 0 ∷ 0 ∷ 0 ∷ 0
    ∷ 24 ∷ 0 ∷ 28 ∷ 0 ∷ 28 ∷ 0 ∷ 28 ∷ 0
    ∷ 28 ∷ 0 ∷ 0 ∷ 0 ∷ 0 ∷ 0 ∷ 0 ∷ 0
    ∷ 0 ∷ 1 ∷ 255 ∷ 0 ∷ []
