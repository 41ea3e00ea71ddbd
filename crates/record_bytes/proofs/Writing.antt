-- What is read is written: bytes of right form are the record of the page that they hold.
-- Assumes nothing.
use Prim.Native.Nat.{ℕ, ◌+◌, ◌*◌, ◌/◌, ◌%◌, ◌<◌, ◌≤◌}
use mathlib.Core.Path.{◌≡◌, refl, sym, ap, ◌∙◌}
use mathlib.Core.Bool.{Bool, true, cond, ◌&&◌}
use mathlib.Core.List.{List, [], ◌∷◌, ◌++◌, map, flatten}
use native.Mathlib.Omega.{arith}
use lib.ListN.{length, take, drop, length-map, length-drop, take-append-drop}
use lib.Seq.{take_all, drop-drop, get_or-take, length-take-le}
use lib.Dec.{eqb, leb}
use borrow.Author.Tests.{eqb-true, leb-true}
use Rattle.laws.specs.Lists.{tabulate}
use Rattle.laws.proofs.Bools.{and_left, and_right}
use Rattle.laws.proofs.Lists.{by_equal}
use Rattle.rules.specs.Page.{each_row, page_formed}
use Rattle.rules_soundness.proofs.Tests.{AllTrue, all_true}
use Rattle.rules_pages.proofs.Rows.{all_pass, tabulate_is}
use Rattle.record_bytes.specs.Record.{AreBytes, byte, word, word_at, Header, packed, header_bytes, header_in, thread_bytes, thread_in, mutex_bytes, mutex_in, tie_bytes, tie_in, timer_bytes, timer_in, header_of, record_of, cut_rows, thread_rows, mutex_rows, condition_rows, timer_rows, page_in, offsets_fit, mutex_zero, condition_zero, timer_zero, zeros_fit, right_form, formed}
use Rattle.record_bytes.proofs.Tables.{word_written, bytes_drop, length_rows, table_written}

-- ---- a row of each table

-- a list is its bytes
listed : (n : ℕ) (row : List ℕ) → length row ≡ n → tabulate n (byte row) ≡ row
listed n row e = tabulate_is 0 n (byte row) row e (λ i k. refl)

-- a thread's row has no zero byte
thread_written : (row : List ℕ) → length row ≡ 4 → AreBytes row → true ≡ true → thread_bytes (thread_in row) ≡ row
unfolding tabulate
thread_written row e b z = listed 4 row e

-- a mutex's has one
mutex_written : (row : List ℕ) → length row ≡ 4 → AreBytes row → mutex_zero row ≡ true → mutex_bytes (mutex_in row) ≡ row
unfolding tabulate
mutex_written row e b z = ap (λ x. byte row 0 ∷ byte row 1 ∷ byte row 2 ∷ x ∷ []) (sym (eqb-true (byte row 3) 0 z)) ∙ listed 4 row e

-- a condition variable's has three
tie_written : (row : List ℕ) → length row ≡ 4 → AreBytes row → condition_zero row ≡ true → tie_bytes (tie_in row) ≡ row
unfolding tabulate
tie_written row e b z = (λ i. byte row 0 ∷ one i ∷ two i ∷ three i ∷ []) ∙ listed 4 row e
  where
    both : (eqb (byte row 1) 0 && eqb (byte row 2) 0) ≡ true
    both = and_left (eqb (byte row 1) 0 && eqb (byte row 2) 0) (eqb (byte row 3) 0) z

    one : 0 ≡ byte row 1
    one = sym (eqb-true (byte row 1) 0 (and_left (eqb (byte row 1) 0) (eqb (byte row 2) 0) both))

    two : 0 ≡ byte row 2
    two = sym (eqb-true (byte row 2) 0 (and_right (eqb (byte row 1) 0) (eqb (byte row 2) 0) both))

    three : 0 ≡ byte row 3
    three = sym (eqb-true (byte row 3) 0 (and_right (eqb (byte row 1) 0 && eqb (byte row 2) 0) (eqb (byte row 3) 0) z))

-- a timer's has two
timer_written : (row : List ℕ) → length row ≡ 8 → AreBytes row → timer_zero row ≡ true → timer_bytes (timer_in row) ≡ row
unfolding tabulate
timer_written row e b z = (λ i. byte row 0 ∷ byte row 1 ∷ word_written row 2 b i ++ word_written row 4 b i ++ (low i ∷ high i ∷ [])) ∙ listed 8 row e
  where
    low : 0 ≡ byte row 6
    low = sym (eqb-true (byte row 6) 0 (and_left (eqb (byte row 6) 0) (eqb (byte row 7) 0) z))

    high : 0 ≡ byte row 7
    high = sym (eqb-true (byte row 7) 0 (and_right (eqb (byte row 6) 0) (eqb (byte row 7) 0) z))

-- ---- the header

-- 24 bytes that are read as a header are written as they were
header_written : (bytes : List ℕ) → 24 ≤ length bytes → AreBytes bytes → header_bytes (header_in bytes) ≡ take 24 bytes
unfolding header_bytes header_in flatten tabulate
header_written bytes h b =
    (λ i. flatten (
    word_written bytes 0 b i ∷ word_written bytes 2 b i ∷ word_written bytes 4 b i ∷ word_written bytes 6 b i
    ∷ word_written bytes 8 b i ∷ word_written bytes 10 b i ∷ word_written bytes 12 b i ∷ word_written bytes 14 b i
    ∷ word_written bytes 16 b i ∷ word_written bytes 18 b i ∷ low i ∷ high i ∷ []))
    ∙ tabulate_is 0 24 (byte bytes) (take 24 bytes) (length-take-le 24 bytes h) (λ i k. sym (get_or-take 24 bytes i 0 k))
  where
    small : word_at bytes 20 < 65536
    small = omega (arith, b 20, b 21)

    low : word ((word_at bytes 20 + 65536 * word_at bytes 22) % 65536) ≡ byte bytes 20 ∷ byte bytes 21 ∷ []
    low = ap word (go (word_at bytes 20) (word_at bytes 22) small) ∙ word_written bytes 20 b
      where
        go : (x y : ℕ) → x < 65536 → (x + 65536 * y) % 65536 ≡ x
        go x y k = omega arith

    high : word ((word_at bytes 20 + 65536 * word_at bytes 22) / 65536) ≡ byte bytes 22 ∷ byte bytes 23 ∷ []
    high = ap word (go (word_at bytes 20) (word_at bytes 22) small) ∙ word_written bytes 22 b
      where
        go : (x y : ℕ) → x < 65536 → (x + 65536 * y) / 65536 ≡ y
        go x y k = omega arith

-- a header whose offsets are packed
header_packed : (h : Header) → AllTrue (offsets_fit h) → packed h.threads h.mutexes h.conditions h.timers h.started h.count ≡ h
header_packed h o = λ i. record {
  threads = h.threads;
  mutexes = h.mutexes;
  conditions = h.conditions;
  timers = h.timers;
  threads_at = sym (eqb-true h.threads_at p.threads_at o.0) i;
  mutexes_at = sym (eqb-true h.mutexes_at p.mutexes_at o.1.0) i;
  conditions_at = sym (eqb-true h.conditions_at p.conditions_at o.1.1.0) i;
  timers_at = sym (eqb-true h.timers_at p.timers_at o.1.1.1.0) i;
  total = sym (eqb-true h.total p.total o.1.1.1.1.0) i;
  started = h.started;
  count = h.count;
}
  where
    p : Header
    p = packed h.threads h.mutexes h.conditions h.timers h.started h.count

-- started, as a number, as a test and as a number again
started_written : (n : ℕ) → leb n 1 ≡ true → cond (eqb n 1) 1 0 ≡ n
started_written n e = by_equal n 1 (λ q. rw q) (λ q. let z : n ≡ 0 = omega (arith, leb-true n 1 e, q) in rw z)

-- ---- the whole

-- m bytes from n on, and what follows them
joined : (n m : ℕ) (l : List ℕ) → take m (drop n l) ++ drop (n + m) l ≡ drop n l
joined n m l = ap (λ x. take m (drop n l) ++ x) (sym (drop-drop m n l)) ∙ take-append-drop m (drop n l)

-- five parts that follow without gaps
all_joined : (a b c d e : ℕ) (l : List ℕ) → length l ≡ a + b + c + d + e
    → take a l ++ (take b (drop a l) ++ (take c (drop (a + b) l) ++ (take d (drop (a + b + c) l) ++ take e (drop (a + b + c + d) l)))) ≡ l
all_joined a b c d e l h =
    ap (λ x. take a l ++ (take b (drop a l) ++ (take c (drop (a + b) l) ++ (take d (drop (a + b + c) l) ++ x))))
    (take_all e (drop (a + b + c + d) l) (omega (arith, length-drop (a + b + c + d) l)))
    ∙ ap (λ x. take a l ++ (take b (drop a l) ++ (take c (drop (a + b) l) ++ x))) (joined (a + b + c) d l)
    ∙ ap (λ x. take a l ++ (take b (drop a l) ++ x)) (joined (a + b) c l)
    ∙ ap (λ x. take a l ++ x) (joined a b l)
    ∙ take-append-drop a l

module _ (bytes : List ℕ) (f : formed bytes ≡ true) where
  -- what right form says
  tests : AllTrue (right_form bytes)
  tests = all_true (right_form bytes) (unfold formed in f)

  offsets : AllTrue (offsets_fit (header_in bytes))
  offsets = all_true (offsets_fit (header_in bytes)) tests.1.1.0

  zeros : AllTrue (zeros_fit bytes)
  zeros = all_true (zeros_fit bytes) tests.1.1.1.1.0

  -- its states are among the document's
  pub states_formed_lem : page_formed (page_in bytes) ≡ true
  states_formed_lem = tests.1.1.1.1.1.0

  -- it has a header
  long : 24 ≤ length bytes
  long = leb-true 24 (length bytes) (and_left (leb 24 (length bytes)) (eqb (length bytes) (header_in bytes).total) tests.0)

  -- its header, and the packed one of the same counts
  abbrev h : Header
  h = header_in bytes

  abbrev p : Header
  p = packed h.threads h.mutexes h.conditions h.timers h.started h.count

  -- they are one
  pub same_header : p ≡ header_in bytes
  same_header = header_packed (header_in bytes) offsets

  -- so the buffer is as long as the header and its tables
  total : length bytes ≡ 24 + 4 * h.threads + 4 * h.mutexes + 4 * h.conditions + 8 * h.timers
  total = eqb-true (length bytes) h.total (and_right (leb 24 (length bytes)) (eqb (length bytes) h.total) tests.0) ∙ sym (ap (λ x. x.total) same_header)

  -- the header of the page is the one that was read
  header_back : header_of (page_in bytes) ≡ header_in bytes
  unfolding header_of page_in
  header_back = (λ i. packed (threads i) (mutexes i) (conditions i) (timers i) (started_written h.started tests.1.1.1.0 i) h.count) ∙ same_header
    where
      threads : length (map thread_in (thread_rows bytes)) ≡ (header_in bytes).threads
      threads = length-map (thread_rows bytes) thread_in ∙ length_rows 4 h.threads (drop h.threads_at bytes)

      mutexes : length (map mutex_in (mutex_rows bytes)) ≡ (header_in bytes).mutexes
      mutexes = length-map (mutex_rows bytes) mutex_in ∙ length_rows 4 h.mutexes (drop h.mutexes_at bytes)

      conditions : length (map tie_in (condition_rows bytes)) ≡ (header_in bytes).conditions
      conditions = length-map (condition_rows bytes) tie_in ∙ length_rows 4 h.conditions (drop h.conditions_at bytes)

      timers : length (map timer_in (timer_rows bytes)) ≡ (header_in bytes).timers
      timers = length-map (timer_rows bytes) timer_in ∙ length_rows 8 h.timers (drop h.timers_at bytes)

  module _ (b : AreBytes bytes) where
    -- a table that stands at an offset is written as it was
    module _ {Row : Type 0} (width n at place : ℕ) (to : Row → List ℕ) (from : List ℕ → Row) (test : List ℕ → Bool) where
      table_back : ((row : List ℕ) → length row ≡ width → AreBytes row → test row ≡ true → to (from row) ≡ row)
          → each_row test (cut_rows width n (drop at bytes)) ≡ true → place ≡ at → place + width * n ≤ length bytes
          → flatten (map to (map from (cut_rows width n (drop at bytes)))) ≡ take (width * n) (drop place bytes)
      table_back same z e k =
          table_written width to from test same n (drop at bytes) (omega (arith, length-drop at bytes)) (bytes_drop at bytes b) z
          ∙ ap (λ o. take (width * n) (drop o bytes)) (sym e)

    -- bytes of right form are the record of the page that they hold
    pub written_read : record_of (page_in bytes) ≡ bytes
    unfolding record_of page_in
    written_read = (λ i. header i ++ (threads i ++ (mutexes i ++ (conditions i ++ timers i)))) ∙ all_joined 24 (4 * h.threads) (4 * h.mutexes) (4 * h.conditions) (8 * h.timers) bytes total
      where
        header : header_bytes (header_of (page_in bytes)) ≡ take 24 bytes
        header = ap header_bytes header_back ∙ header_written bytes long b

        threads : flatten (map thread_bytes (map thread_in (thread_rows bytes))) ≡ take (4 * (header_in bytes).threads) (drop 24 bytes)
        threads = table_back 4 h.threads h.threads_at 24 thread_bytes thread_in (λ row. true) thread_written (all_pass (thread_rows bytes)) (ap (λ x. x.threads_at) same_header) (omega (arith, total))

        mutexes : flatten (map mutex_bytes (map mutex_in (mutex_rows bytes))) ≡ take (4 * (header_in bytes).mutexes) (drop (24 + 4 * (header_in bytes).threads) bytes)
        mutexes = table_back 4 h.mutexes h.mutexes_at p.mutexes_at mutex_bytes mutex_in mutex_zero mutex_written zeros.0 (ap (λ x. x.mutexes_at) same_header) (omega (arith, total))

        conditions : flatten (map tie_bytes (map tie_in (condition_rows bytes))) ≡ take (4 * (header_in bytes).conditions) (drop (24 + 4 * (header_in bytes).threads + 4 * (header_in bytes).mutexes) bytes)
        conditions = table_back 4 h.conditions h.conditions_at p.conditions_at tie_bytes tie_in condition_zero tie_written zeros.1.0 (ap (λ x. x.conditions_at) same_header) (omega (arith, total))

        timers : flatten (map timer_bytes (map timer_in (timer_rows bytes))) ≡ take (8 * (header_in bytes).timers) (drop (24 + 4 * (header_in bytes).threads + 4 * (header_in bytes).mutexes + 4 * (header_in bytes).conditions) bytes)
        timers = table_back 8 h.timers h.timers_at p.timers_at timer_bytes timer_in timer_zero timer_written zeros.1.1.0 (ap (λ x. x.timers_at) same_header) (omega (arith, total))
