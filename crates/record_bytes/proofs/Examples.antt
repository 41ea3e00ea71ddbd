-- Document 01's boot record, whole, its example E1, and a record that has a row of each table.
-- Assumes nothing.
use Prim.Native.Nat.{ℕ}
use mathlib.Core.Path.{◌≡◌, refl, ap}
use mathlib.Core.Bool.{true, false}
use mathlib.Core.List.{List, [], ◌∷◌, ◌++◌, map, flatten}
use lib.ListN.{set, take, replicate}
use Rattle.laws.specs.Lists.{among, tabulate}
use Rattle.calls.specs.Answers.{number_of}
use Rattle.calls.specs.declared.Verdict.TheVariants.{Done, NotSound, WrongRecord}
use Rattle.rules.specs.Queues.{empty_set, to_back}
use Rattle.rules.specs.State.{same, at, highest_ceiling, priority, owned, boot}
use Rattle.rules.specs.Sound.{each, timers_sound, none_goes}
use Rattle.rules.specs.Page.{Page, where_of, timer_state_of, runner_from, rows_of, queue_of, set_of, described_by, how_many, each_row, page_formed, page_sound}
use Rattle.rules_pages.proofs.Pages.{boot_page}
use Rattle.record_bytes.specs.Record.{header_bytes, header_in, header_of, record_of, cut_rows, page_in, formed, boot_record}
use Rattle.record_bytes.specs.Loading.{Loaded, load, saved}

-- it is the record of boot
pub boot_record_lem : saved boot ≡ boot_record
unfolding record_of header_of header_bytes flatten
boot_record_lem = ap record_of boot_page

-- E1: the boot record loads as boot
pub boot_record_loads : load boot_record ≡ record { answer = Done; state = boot }
unfolding load formed page_in header_in cut_rows each_row page_formed page_sound described_by each timers_sound none_goes how_many rows_of set_of queue_of tabulate flatten among where_of runner_from at same priority highest_ceiling owned empty_set to_back boot
boot_record_loads = refl

-- 27 bytes of it are of wrong form
pub boot_record_cut : load (take 27 boot_record) ≡ record { answer = WrongRecord; state = boot }
unfolding load formed header_in
boot_record_cut = refl

-- its thread 0 with base 1 is not sound
pub boot_record_base_1 : load (set boot_record 24 1) ≡ record { answer = NotSound; state = boot }
unfolding load formed page_in header_in cut_rows each_row page_formed page_sound each timers_sound none_goes how_many rows_of where_of runner_from at same priority highest_ceiling owned
boot_record_base_1 = refl

-- E1 in the document's numbers
pub example_1 : (saved boot ≡ boot_record) × (number_of (load boot_record).answer ≡ 0) × (number_of (load (take 27 boot_record)).answer ≡ 15) × (number_of (load (set boot_record 24 1)).answer ≡ 1)
example_1 = (boot_record_lem, number boot_record_loads, number boot_record_cut, number boot_record_base_1)
  where
    number : {a b : Loaded} → a ≡ b → number_of a.answer ≡ number_of b.answer
    number e = ap (λ (x : Loaded). number_of x.answer) e

-- ---- a row of each table

-- tick count 12345678 in hexadecimal; thread 1 of base 3 runs and owns a mutex of ceiling 5 once; a periodic timer of length 1,000 with 258 ticks left
abbrev pub one_page : Page
one_page = record {
  started = true;
  count = 305419896;
  threads = record { base = 0; state = 1; object = 255; place = 0 } ∷ record { base = 3; state = 2; object = 255; place = 0 } ∷ [];
  mutexes = record { ceiling = 5; owner = 1; count = 1 } ∷ [];
  ties = 255 ∷ [];
  timers = record { state = 2; condition = 0; length = 1000; left = 258 } ∷ [];
}

-- 02 00 01 00 01 00 01 00, 18 00 20 00 24 00 28 00, 30 00 01 00 78 56 34 12, then the five rows
abbrev pub one_record : List ℕ
one_record =
    2 ∷ 0 ∷ 1 ∷ 0 ∷ 1 ∷ 0 ∷ 1 ∷ 0
    ∷ 24 ∷ 0 ∷ 32 ∷ 0 ∷ 36 ∷ 0 ∷ 40 ∷ 0
    ∷ 48 ∷ 0 ∷ 1 ∷ 0 ∷ 120 ∷ 86 ∷ 52 ∷ 18
    ∷ 0 ∷ 1 ∷ 255 ∷ 0
    ∷ 3 ∷ 2 ∷ 255 ∷ 0
    ∷ 5 ∷ 1 ∷ 1 ∷ 0
    ∷ 255 ∷ 0 ∷ 0 ∷ 0
    ∷ 2 ∷ 0 ∷ 232 ∷ 3 ∷ 2 ∷ 1 ∷ 0 ∷ 0 ∷ []

-- the page is written so
pub one_written : record_of one_page ≡ one_record
unfolding record_of header_of header_bytes flatten
one_written = refl

-- and the record loads
pub one_loads : number_of (load one_record).answer ≡ 0
unfolding load formed page_in header_in cut_rows each_row page_formed page_sound described_by each timers_sound none_goes how_many rows_of where_of runner_from timer_state_of at same priority highest_ceiling owned
one_loads = refl

-- the number that a load answers for this record with the byte at a place replaced
abbrev answer_with : ℕ → ℕ → ℕ
answer_with i n = number_of (load (set one_record i n)).answer

-- wrong form, clause by clause: total, no thread, a count over its limit, an offset, started 2, a zero byte of each table that has one, a thread state, a timer state
pub wrong_forms : map (λ (x : ℕ × ℕ). answer_with x.0 x.1) ((16, 49) ∷ (0, 0) ∷ (2, 17) ∷ (10, 28) ∷ (18, 2) ∷ (35, 1) ∷ (38, 1) ∷ (47, 1) ∷ (25, 5) ∷ (40, 3) ∷ [])
    ≡ 15 ∷ 15 ∷ 15 ∷ 15 ∷ 15 ∷ 15 ∷ 15 ∷ 15 ∷ 15 ∷ 15 ∷ []
unfolding load formed page_in header_in cut_rows each_row page_formed
wrong_forms = refl

-- so is a byte behind the tables, though the total counts it
pub gap_at_the_end : number_of (load (set one_record 16 49 ++ (0 ∷ []))).answer ≡ 15
unfolding load formed header_in
gap_at_the_end = refl

-- a page of as many rows in each table
abbrev rows_each : ℕ → ℕ → ℕ → ℕ → Page
rows_each t m c i = record {
  started = false;
  count = 0;
  threads = replicate t (record { base = 0; state = 1; object = 255; place = 0 });
  mutexes = replicate m (record { ceiling = 5; owner = 255; count = 0 });
  ties = replicate c 255;
  timers = replicate i (record { state = 0; condition = 255; length = 0; left = 0 });
}

-- the number that a load answers for its record
abbrev answer_for : Page → ℕ
answer_for p = number_of (load (record_of p)).answer

-- no thread, and each table with one row too many, though packed
pub wrong_counts : map answer_for (rows_each 0 0 0 0 ∷ rows_each 33 0 0 0 ∷ rows_each 1 17 0 0 ∷ rows_each 1 0 17 0 ∷ rows_each 1 0 0 33 ∷ []) ≡ 15 ∷ 15 ∷ 15 ∷ 15 ∷ 15 ∷ []
unfolding load formed header_in record_of header_of header_bytes flatten
wrong_counts = refl
