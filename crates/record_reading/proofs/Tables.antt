-- The page that is read at the places of packed tables is the page that a buffer of right form holds, and is blank past its counts.
-- Assumes nothing.
use Prim.Native.Nat.{ℕ, zero, suc, ◌+◌, ◌*◌, ◌<◌, ◌≤◌}
use mathlib.Core.Path.{◌≡◌, refl, sym, ap, ap₂, ◌∙◌}
use mathlib.Core.Bool.{true, cond}
use mathlib.Core.List.{List, ◌∷◌, map}
use native.Mathlib.Nat.{mul-suc}
use native.Mathlib.Omega.{arith}
use lib.ListN.{get_or, take, drop}
use lib.Seq.{get_or-take, get_or-drop, drop-drop}
use lib.Dec.{eqb, ltb}
use borrow.Author.Tests.{lt-ltb, le-ltb}
use Rattle.laws.specs.Lists.{tabulate}
use Rattle.laws.proofs.Lists.{length_tabulate, get_d_tabulate, tabulate_same, tabulate_below}
use Rattle.rules.specs.State.{no_mutex}
use Rattle.rules.specs.Page.{no_row}
use Rattle.record_bytes.specs.Record.{byte, word_at, header_in, thread_in, mutex_in, tie_in, timer_in, cut_rows, page_in, formed}
use Rattle.record_bytes.proofs.Writing.{same_header}
use Rattle.page.specs.Says.{thread_said, mutex_said, timer_said, thread_for, mutex_for, timer_for, no_thread_row, no_mutex_row, no_timer_row, stopped_timer_row, said, page_for}
use Rattle.page.proofs.Says.{forth}
use Rattle.record_reading.specs.Rows.{thread_at, mutex_at, timer_at, thread_or, mutex_or, tie_or, timer_or, read_model}

-- the first n rows of a table whose other rows are blank
first_rows : {A B : Type 0} (size n : ℕ) (f : ℕ → B) (blank none : B) (g : B → A) → n ≤ size
    → tabulate n (λ u. g (get_or (tabulate size (λ v. cond (ltb v n) (f v) blank)) u none)) ≡ tabulate n (λ u. g (f u))
first_rows size n f blank none g h =
    tabulate_below n (λ u. g (get_or (tabulate size (λ v. cond (ltb v n) (f v) blank)) u none)) (λ u. g (f u))
    (λ u l. ap g (get_d_tabulate size (λ v. cond (ltb v n) (f v) blank) u none (omega arith) ∙ rw (lt-ltb u n l)))

-- rows that are cut from a place on, each read
cut : {Row : Type 0} (from : List ℕ → Row) (width n at : ℕ) (bytes : List ℕ) → map from (cut_rows width n (drop at bytes)) ≡ tabulate n (λ u. from (take width (drop (at + width * u) bytes)))
unfolding cut_rows tabulate
cut from width zero at bytes = refl
cut from width (suc n) at bytes =
    let first : at ≡ at + width * 0 = omega arith in
    ap₂ (λ x l. x ∷ l) (ap (λ k. from (take width (drop k bytes))) first)
    (ap (λ l. map from (cut_rows width n l)) (drop-drop width at bytes)
    ∙ cut from width n (at + width) bytes
    ∙ tabulate_same n (λ u. from (take width (drop (at + width + width * u) bytes))) (λ u. from (take width (drop (at + width * suc u) bytes)))
    (λ u. ap (λ k. from (take width (drop k bytes))) (further at width u)))
  where
    further : (at width u : ℕ) → at + width + width * u ≡ at + width * suc u
    further at width u = let e : at + width + width * u ≡ at + (width * u + width) = omega arith in e ∙ ap (λ k. at + k) (sym (mul-suc width u))

module _ (bytes : List ℕ) where
  -- a byte of a row
  inside : (width k j : ℕ) → j < width → byte (take width (drop k bytes)) j ≡ byte bytes (k + j)
  inside width k j h = get_or-take width (drop k bytes) j 0 h ∙ get_or-drop k bytes j 0

  -- the first byte of a row
  foremost : (width k : ℕ) → 0 < width → byte (take width (drop k bytes)) 0 ≡ byte bytes k
  foremost width k h = let e : k + 0 ≡ k = omega arith in inside width k 0 h ∙ ap (byte bytes) e

  -- a word of a row
  within : (width k j : ℕ) → suc j < width → word_at (take width (drop k bytes)) j ≡ word_at bytes (k + j)
  within width k j h = let e : k + suc j ≡ suc (k + j) = omega arith in ap₂ (λ low high. low + 256 * high) (inside width k j (omega arith)) (inside width k (suc j) h ∙ ap (byte bytes) e)

  -- rows as they are read
  thread_read : (k : ℕ) → thread_in (take 4 (drop k bytes)) ≡ thread_at bytes k
  thread_read k = λ i. record { base = foremost 4 k (omega arith) i; state = inside 4 k 1 (omega arith) i; object = inside 4 k 2 (omega arith) i; place = inside 4 k 3 (omega arith) i }

  mutex_read : (k : ℕ) → mutex_in (take 4 (drop k bytes)) ≡ mutex_at bytes k
  mutex_read k = λ i. record { ceiling = foremost 4 k (omega arith) i; owner = inside 4 k 1 (omega arith) i; count = inside 4 k 2 (omega arith) i }

  timer_read : (k : ℕ) → timer_in (take 8 (drop k bytes)) ≡ timer_at bytes k
  timer_read k = λ i. record { state = foremost 8 k (omega arith) i; condition = inside 8 k 1 (omega arith) i; length = within 8 k 2 (omega arith) i; left = within 8 k 4 (omega arith) i }

  -- a table at its place, where the offset is packed
  module _ {Row : Type 0} (from : List ℕ → Row) (from_at : ℕ → Row) (width : ℕ) (same : (k : ℕ) → from (take width (drop k bytes)) ≡ from_at k) where
    placed : (n at place : ℕ) → place ≡ at → tabulate n (λ u. from_at (place + width * u)) ≡ map from (cut_rows width n (drop at bytes))
    placed n at place e =
        tabulate_same n (λ u. from_at (place + width * u)) (λ u. from (take width (drop (at + width * u) bytes))) (λ u. ap (λ k. from_at (k + width * u)) e ∙ sym (same (at + width * u)))
        ∙ sym (cut from width n at bytes)

-- what is read with the header's counts is what a buffer of right form holds
pub read_page_lem : (bytes : List ℕ) → formed bytes ≡ true
    → (header_in bytes).threads ≤ 32 → (header_in bytes).mutexes ≤ 16 → (header_in bytes).conditions ≤ 16 → (header_in bytes).timers ≤ 32
    → said (read_model bytes (header_in bytes).threads (header_in bytes).mutexes (header_in bytes).conditions (header_in bytes).timers) ≡ page_in bytes
unfolding said read_model page_in header_in
read_page_lem bytes f ht hm hc hi =
    let h = header_in bytes in
    let e = same_header bytes f in
    λ i. record {
      started = eqb (word_at bytes 18) 1;
      count = word_at bytes 20 + 65536 * word_at bytes 22;
      threads = (first_rows 32 h.threads (λ t. thread_for (thread_at bytes (24 + 4 * t))) (thread_for no_row) no_thread_row thread_said ht ∙ placed bytes thread_in (thread_at bytes) 4 (thread_read bytes) h.threads h.threads_at 24 (ap (λ x. x.threads_at) e)) i;
      mutexes = (first_rows 16 h.mutexes (λ m. mutex_for (mutex_at bytes (24 + 4 * h.threads + 4 * m))) (mutex_for no_mutex) no_mutex_row mutex_said hm ∙ placed bytes mutex_in (mutex_at bytes) 4 (mutex_read bytes) h.mutexes h.mutexes_at (24 + 4 * h.threads) (ap (λ x. x.mutexes_at) e)) i;
      ties = (first_rows 16 h.conditions (λ c. byte bytes (24 + 4 * h.threads + 4 * h.mutexes + 4 * c)) 255 0 (λ x. x) hc ∙ placed bytes tie_in (byte bytes) 4 (λ k. foremost bytes 4 k (omega arith)) h.conditions h.conditions_at (24 + 4 * h.threads + 4 * h.mutexes) (ap (λ x. x.conditions_at) e)) i;
      timers = (first_rows 32 h.timers (λ t. timer_for (timer_at bytes (24 + 4 * h.threads + 4 * h.mutexes + 4 * h.conditions + 8 * t))) (timer_for stopped_timer_row) no_timer_row timer_said hi ∙ placed bytes timer_in (timer_at bytes) 8 (timer_read bytes) h.timers h.timers_at (24 + 4 * h.threads + 4 * h.mutexes + 4 * h.conditions) (ap (λ x. x.timers_at) e)) i;
    }

-- the page that is read is the one for what it says: its rows past the counts are blank
pub read_blank : (bytes : List ℕ) (t m c i : ℕ) → t ≤ 32 → m ≤ 16 → c ≤ 16 → i ≤ 32 → page_for (said (read_model bytes t m c i)) ≡ read_model bytes t m c i
unfolding page_for said read_model
read_blank bytes t m c i ht hm hc hi = λ j. record {
  started = eqb (word_at bytes 18) 1;
  count = word_at bytes 20 + 65536 * word_at bytes 22;
  threads = length_tabulate t (λ u. thread_said (get_or (tabulate 32 (thread_or bytes 24 t)) u no_thread_row)) j;
  mutexes = length_tabulate m (λ u. mutex_said (get_or (tabulate 16 (mutex_or bytes (24 + 4 * t) m)) u no_mutex_row)) j;
  conditions = length_tabulate c (λ u. get_or (tabulate 16 (tie_or bytes (24 + 4 * t + 4 * m) c)) u 0) j;
  timers = length_tabulate i (λ u. timer_said (get_or (tabulate 32 (timer_or bytes (24 + 4 * t + 4 * m + 4 * c) i)) u no_timer_row)) j;
  threadrows = forth 32 t thread_for thread_said no_row no_thread_row (thread_or bytes 24 t) ht (λ b. refl) (λ u l. rw (le-ltb u t l)) j;
  mutexrows = forth 16 m mutex_for mutex_said no_mutex no_mutex_row (mutex_or bytes (24 + 4 * t) m) hm (λ b. refl) (λ u l. rw (le-ltb u m l)) j;
  ties = forth 16 c (λ x. x) (λ x. x) 255 0 (tie_or bytes (24 + 4 * t + 4 * m) c) hc (λ b. refl) (λ u l. rw (le-ltb u c l)) j;
  timerrows = forth 32 i timer_for timer_said stopped_timer_row no_timer_row (timer_or bytes (24 + 4 * t + 4 * m + 4 * c) i) hi (λ b. refl) (λ u l. rw (le-ltb u i l)) j;
}
