-- What is written is read: the record of a page within its limits is of right form and holds that page.
-- Assumes nothing.
use Prim.Native.Nat.{ℕ, ◌+◌, ◌*◌, ◌/◌, ◌%◌}
use mathlib.Core.Path.{◌≡◌, refl, sym, ap, ◌∙◌}
use mathlib.Core.Bool.{Bool, true, false, cond, not, ◌&&◌}
use mathlib.Core.List.{List, [], ◌++◌, map, flatten, append-nil}
use native.Mathlib.Omega.{arith}
use lib.ListN.{length, drop, length-append, length-map}
use lib.Seq.{drop_at, drop-drop}
use lib.Dec.{eqb, leb}
use borrow.Author.Tests.{eq-eqb, le-leb}
use Rattle.laws.proofs.Bools.{and_left, and_both, self}
use Rattle.units.specs.Units.{outside}
use Rattle.rules.specs.Sound.{all, clauses, limits, each}
use Rattle.rules.specs.Page.{TimerRow, Page, thread_of, timer_of, rows_of, object_sound, place_sound, each_row, page_formed, page_sound}
use Rattle.rules_soundness.proofs.Tests.{AllTrue, all_true, true_all}
use Rattle.rules_pages.proofs.Rows.{map_passes, map_back, all_pass}
use Rattle.record_bytes.specs.Record.{Header, header_bytes, header_in, thread_bytes, thread_in, mutex_bytes, mutex_in, tie_bytes, tie_in, timer_bytes, timer_in, header_of, record_of, cut_rows, thread_rows, mutex_rows, condition_rows, timer_rows, page_in, counts_fit, offsets_fit, mutex_zero, condition_zero, timer_zero, zeros_fit, right_form, formed}
use Rattle.record_bytes.proofs.Tables.{word_read, rows_written_lem, length_table}

-- ---- the header

-- a header is read as it was written, whatever follows
pub header_read : (h : Header) (others : List ℕ) → header_in (header_bytes h ++ others) ≡ h
unfolding header_in header_bytes flatten
header_read h others = λ i. record {
  threads = word_read h.threads i;
  mutexes = word_read h.mutexes i;
  conditions = word_read h.conditions i;
  timers = word_read h.timers i;
  threads_at = word_read h.threads_at i;
  mutexes_at = word_read h.mutexes_at i;
  conditions_at = word_read h.conditions_at i;
  timers_at = word_read h.timers_at i;
  total = word_read h.total i;
  started = word_read h.started i;
  count = count h.count i;
}
  where
    count : (n : ℕ) → n % 65536 % 256 + 256 * (n % 65536 / 256) + 65536 * (n / 65536 % 256 + 256 * (n / 65536 / 256)) ≡ n
    count n = omega arith

-- it has 24 bytes
pub length_header : (h : Header) → length (header_bytes h) ≡ 24
unfolding header_bytes flatten
length_header h = refl

-- ---- a row of each table

-- a timer is read as it was written
timer_read : (x : TimerRow) → timer_in (timer_bytes x) ≡ x
timer_read x = λ i. record { state = x.state; condition = x.condition; length = word_read x.length i; left = word_read x.left i }

module _ {Row : Type 0} (to : Row → List ℕ) (from : List ℕ → Row) where
  -- so is a table whose rows are
  table_read : ((x : Row) → from (to x) ≡ x) → (xs : List Row) → map from (map to xs) ≡ xs
  table_read same xs = map_back (λ x. true) to from (λ x e. same x) xs (all_pass xs)

-- a test of started as a number
started_read : (b : Bool) → eqb (cond b 1 0) 1 ≡ b
started_read true = refl
started_read false = refl

-- and the number is 0 or 1
started_low : (b : Bool) → leb (cond b 1 0) 1 ≡ true
started_low true = refl
started_low false = refl

-- past x stands what follows it
past : (n m : ℕ) (l x y : List ℕ) → drop n l ≡ x ++ y → length x ≡ m → drop (n + m) l ≡ y
past n m l x y e h = sym (drop-drop m n l) ∙ ap (drop m) e ∙ drop_at x y m h

-- ---- a page's record

module _ (p : Page) where
  -- the tables of its record
  abbrev threads : List ℕ
  threads = flatten (map thread_bytes p.threads)

  abbrev mutexes : List ℕ
  mutexes = flatten (map mutex_bytes p.mutexes)

  abbrev ties : List ℕ
  ties = flatten (map tie_bytes p.ties)

  abbrev timers : List ℕ
  timers = flatten (map timer_bytes p.timers)

  -- its header is read
  header_of_lem : header_in (record_of p) ≡ header_of p
  unfolding record_of
  header_of_lem = header_read (header_of p) (threads ++ (mutexes ++ (ties ++ timers)))

  -- their lengths
  length_threads : length threads ≡ 4 * length p.threads
  length_threads = length_table 4 thread_bytes (λ x. refl) p.threads

  length_mutexes : length mutexes ≡ 4 * length p.mutexes
  length_mutexes = length_table 4 mutex_bytes (λ x. refl) p.mutexes

  length_ties : length ties ≡ 4 * length p.ties
  length_ties = length_table 4 tie_bytes (λ x. refl) p.ties

  length_timers : length timers ≡ 8 * length p.timers
  length_timers = length_table 8 timer_bytes (λ x. refl) p.timers

  -- where each table stands
  past_header : drop 24 (record_of p) ≡ threads ++ (mutexes ++ (ties ++ timers))
  unfolding record_of
  past_header = drop_at (header_bytes (header_of p)) (threads ++ (mutexes ++ (ties ++ timers))) 24 (length_header (header_of p))

  past_threads : drop (24 + 4 * length p.threads) (record_of p) ≡ mutexes ++ (ties ++ timers)
  past_threads = past 24 (4 * length p.threads) (record_of p) threads (mutexes ++ (ties ++ timers)) past_header length_threads

  past_mutexes : drop (24 + 4 * length p.threads + 4 * length p.mutexes) (record_of p) ≡ ties ++ timers
  past_mutexes = past (24 + 4 * length p.threads) (4 * length p.mutexes) (record_of p) mutexes (ties ++ timers) past_threads length_mutexes

  past_ties : drop (24 + 4 * length p.threads + 4 * length p.mutexes + 4 * length p.ties) (record_of p) ≡ timers
  past_ties = past (24 + 4 * length p.threads + 4 * length p.mutexes) (4 * length p.ties) (record_of p) ties timers past_mutexes length_ties

  -- the record's length
  pub length_record : length (record_of p) ≡ 24 + 4 * length p.threads + 4 * length p.mutexes + 4 * length p.ties + 8 * length p.timers
  unfolding record_of
  length_record = omega (
    arith,
    length-append (header_bytes (header_of p)) (threads ++ (mutexes ++ (ties ++ timers))),
    length-append threads (mutexes ++ (ties ++ timers)),
    length-append mutexes (ties ++ timers),
    length-append ties timers,
    length_header (header_of p),
    length_threads,
    length_mutexes,
    length_ties,
    length_timers,
  )

  -- what its header says
  started_of : (header_in (record_of p)).started ≡ cond p.started 1 0
  unfolding header_of
  started_of = ap (λ h. h.started) header_of_lem

  count_of : (header_in (record_of p)).count ≡ p.count
  unfolding header_of
  count_of = ap (λ h. h.count) header_of_lem

  total_of : length (record_of p) ≡ (header_in (record_of p)).total
  unfolding header_of
  total_of = length_record ∙ sym (ap (λ h. h.total) header_of_lem)

  -- the rows of each table
  thread_rows_lem : thread_rows (record_of p) ≡ map thread_bytes p.threads
  thread_rows_lem =
      ap (λ h. cut_rows 4 h.threads (drop h.threads_at (record_of p))) header_of_lem
      ∙ (unfold header_of in (ap (λ l. cut_rows 4 (length p.threads) l) past_header ∙ rows_written_lem 4 thread_bytes (λ x. refl) p.threads (mutexes ++ (ties ++ timers))))

  mutex_rows_lem : mutex_rows (record_of p) ≡ map mutex_bytes p.mutexes
  mutex_rows_lem =
      ap (λ h. cut_rows 4 h.mutexes (drop h.mutexes_at (record_of p))) header_of_lem
      ∙ (unfold header_of in (ap (λ l. cut_rows 4 (length p.mutexes) l) past_threads ∙ rows_written_lem 4 mutex_bytes (λ x. refl) p.mutexes (ties ++ timers)))

  condition_rows_lem : condition_rows (record_of p) ≡ map tie_bytes p.ties
  condition_rows_lem =
      ap (λ h. cut_rows 4 h.conditions (drop h.conditions_at (record_of p))) header_of_lem
      ∙ (unfold header_of in (ap (λ l. cut_rows 4 (length p.ties) l) past_mutexes ∙ rows_written_lem 4 tie_bytes (λ x. refl) p.ties timers))

  timer_rows_lem : timer_rows (record_of p) ≡ map timer_bytes p.timers
  timer_rows_lem =
      ap (λ h. cut_rows 8 h.timers (drop h.timers_at (record_of p))) header_of_lem
      ∙ (unfold header_of in (ap (λ l. cut_rows 8 (length p.timers) l) (past_ties ∙ sym (append-nil timers)) ∙ rows_written_lem 8 timer_bytes (λ x. refl) p.timers []))

  -- a record holds the page that it was written from
  pub page_read : page_in (record_of p) ≡ p
  unfolding page_in
  page_read = λ i. record {
    started = (ap (λ n. eqb n 1) started_of ∙ started_read p.started) i;
    count = count_of i;
    threads = (ap (map thread_in) thread_rows_lem ∙ table_read thread_bytes thread_in (λ x. refl) p.threads) i;
    mutexes = (ap (map mutex_in) mutex_rows_lem ∙ table_read mutex_bytes mutex_in (λ x. refl) p.mutexes) i;
    ties = (ap (map tie_in) condition_rows_lem ∙ table_read tie_bytes tie_in (λ x. refl) p.ties) i;
    timers = (ap (map timer_in) timer_rows_lem ∙ table_read timer_bytes timer_in timer_read p.timers) i;
  }

  -- its offsets are packed, and its zero bytes are zero
  offsets : AllTrue (offsets_fit (header_of p))
  unfolding header_of
  offsets = (self (header_of p).threads_at, (self (header_of p).mutexes_at, (self (header_of p).conditions_at, (self (header_of p).timers_at, (self (header_of p).total, tt)))))

  zeros : AllTrue (zeros_fit (record_of p))
  zeros = (
    ap (each_row mutex_zero) mutex_rows_lem ∙ map_passes mutex_zero mutex_bytes p.mutexes (λ x. refl),
    (
      ap (each_row condition_zero) condition_rows_lem ∙ map_passes condition_zero tie_bytes p.ties (λ x. refl),
      (ap (each_row timer_zero) timer_rows_lem ∙ map_passes timer_zero timer_bytes p.timers (λ x. refl), tt),
    ),
  )

  -- and is of right form, where the counts fit and the states are among the document's
  pub form_written : AllTrue (counts_fit (header_of p)) → page_formed p ≡ true → formed (record_of p) ≡ true
  unfolding formed
  form_written fit states = true_all (right_form (record_of p)) (
    and_both (leb 24 (length (record_of p))) (eqb (length (record_of p)) (header_in (record_of p)).total)
        (le-leb 24 (length (record_of p)) (omega (arith, length_record)))
        (eq-eqb (length (record_of p)) (header_in (record_of p)).total total_of),
    (
      ap (λ h. all (counts_fit h)) header_of_lem ∙ true_all (counts_fit (header_of p)) fit,
      (
        ap (λ h. all (offsets_fit h)) header_of_lem ∙ true_all (offsets_fit (header_of p)) offsets,
        (
          ap (λ n. leb n 1) started_of ∙ started_low p.started,
          (true_all (zeros_fit (record_of p)) zeros, (ap page_formed page_read ∙ states, tt)),
        ),
      ),
    ),
  )

-- ---- a sound page's record

-- a sound page keeps the limits
pub page_limits : (p : Page) → page_sound p ≡ true → AllTrue (limits (rows_of p) p.count (map timer_of p.timers))
unfolding page_sound
page_limits p e =
    let k = rows_of p in
    let ts = map timer_of p.timers in
    let two = and_left (all (clauses k p.count ts) && each_row object_sound p.threads) (each (length p.threads) (place_sound p)) e in
    all_true (limits k p.count ts) (all_true (clauses k p.count ts) (and_left (all (clauses k p.count ts)) (each_row object_sound p.threads) two)).0

-- so its counts fit
pub counts_fit_lem : (p : Page) → page_sound p ≡ true → AllTrue (counts_fit (header_of p))
unfolding header_of rows_of
counts_fit_lem p e =
    let l = page_limits p e in (
      ap (λ n. not (outside 1 32 n)) (sym (length-map p.threads thread_of)) ∙ l.0,
      (l.1.0, (l.1.1.0, (ap (λ n. leb n 32) (sym (length-map p.timers timer_of)) ∙ l.1.1.1.0, tt))),
    )

-- the record of a formed and sound page is of right form and holds that page
pub read_written : (p : Page) → page_formed p ≡ true → page_sound p ≡ true → (formed (record_of p) ≡ true) × (page_in (record_of p) ≡ p)
read_written p f e = (form_written p (counts_fit_lem p e) f, page_read p)
