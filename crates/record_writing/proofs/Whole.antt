-- The parts of a record, stored one after the other, are the record of the page; and its length.
-- Assumes nothing.
use Prim.Native.Nat.{ℕ, zero, suc, ◌+◌, ◌*◌, ◌/◌, ◌%◌}
use mathlib.Core.Path.{◌≡◌, refl, sym, ap, ap₂, ◌∙◌}
use mathlib.Core.Bool.{Bool, true, false, cond}
use mathlib.Core.List.{List, ◌∷◌, ◌++◌, map, flatten, append_assoc}
use native.Mathlib.Omega.{arith}
use lib.ListN.{length, get_or, length-append}
use lib.Seq.{sets}
use Rattle.std.specs.Int.{from_bool}
use Rattle.laws.specs.Lists.{tabulate}
use Rattle.laws.proofs.Lists.{length_tabulate, tabulate_same}
use Rattle.record_bytes.specs.Record.{word, packed, header_bytes, header_of, thread_bytes, mutex_bytes, tie_bytes, timer_bytes, record_of}
use Rattle.record_bytes.proofs.Reading.{length_header, length_record}
use Rattle.page.specs.declared.Page.{Page}
use Rattle.page.specs.declared.TimerRow.{TimerRow}
use Rattle.page.specs.Says.{thread_said, mutex_said, timer_said, no_thread_row, no_mutex_row, no_timer_row, said}
use Rattle.record_writing.specs.Tables.{table_from, thread_row, mutex_row, tie_row, timer_row, header_for}
use Rattle.record_writing.proofs.Stores.{then, length_rows}

-- ---- the header

-- whether started, as a number
pub as_bit : (b : Bool) → from_bool b ≡ cond b 1 0
as_bit true = refl
as_bit false = refl

-- six pairs of words, one after the other
pub header_stored : {b₁ b₂ b₃ b₄ b₅ b₆ : List ℕ} (b : List ℕ) (x : Page)
    → b₁ ≡ sets b 0 (word x.threads ++ word x.mutexes)
    → b₂ ≡ sets b₁ 4 (word x.conditions ++ word x.timers)
    → b₃ ≡ sets b₂ 8 (word 24 ++ word (header_for x).mutexes_at)
    → b₄ ≡ sets b₃ 12 (word (header_for x).conditions_at ++ word (header_for x).timers_at)
    → b₅ ≡ sets b₄ 16 (word (header_for x).total ++ word (header_for x).started)
    → b₆ ≡ sets b₅ 20 (word (x.count % 65536) ++ word (x.count / 65536))
    → b₆ ≡ sets b 0 (header_bytes (header_for x))
unfolding header_bytes flatten
header_stored b x e₁ e₂ e₃ e₄ e₅ e₆ =
    e₆ ∙ ap (λ (l : List ℕ). sets l 20 (word (x.count % 65536) ++ word (x.count / 65536)))
    (e₅ ∙ ap (λ (l : List ℕ). sets l 16 (word (header_for x).total ++ word (header_for x).started))
    (e₄ ∙ ap (λ (l : List ℕ). sets l 12 (word (header_for x).conditions_at ++ word (header_for x).timers_at))
    (e₃ ∙ ap (λ (l : List ℕ). sets l 8 (word 24 ++ word (header_for x).mutexes_at))
    (e₂ ∙ ap (λ (l : List ℕ). sets l 4 (word x.conditions ++ word x.timers)) e₁))))

-- ---- a timer

-- its first four bytes, then the others
pub timer_stored : {b₁ b₂ : List ℕ} (b : List ℕ) (at : ℕ) (row : TimerRow)
    → b₁ ≡ sets b at (row.state ∷ row.condition ∷ word row.length.0)
    → b₂ ≡ sets b₁ (at + 4) (word row.left.0 ++ word 0)
    → b₂ ≡ sets b at (timer_bytes (timer_said row))
timer_stored {b₁} {b₂} b at row e f = then b b₁ b₂ at (at + 4) (row.state ∷ row.condition ∷ word row.length.0) (word row.left.0 ++ word 0) e f refl

-- ---- the whole record

-- a function of each row of a table
mapped : {Row : Type 0} (to : Row → List ℕ) (n : ℕ) (f : ℕ → Row) → map to (tabulate n f) ≡ tabulate n (λ i. to (f i))
unfolding tabulate
mapped to zero f = refl
mapped to (suc n) f = ap (λ l. to (f 0) ∷ l) (mapped to n (λ i. f (suc i)))

-- the bytes of a table, row by row
table : {Row : Type 0} (to : Row → List ℕ) (n : ℕ) (f : ℕ → Row) → flatten (map to (tabulate n f)) ≡ table_from (λ i. to (f i)) n 0
unfolding table_from
table to n f = ap flatten (mapped to n f ∙ tabulate_same n (λ i. to (f i)) (λ i. to (f (0 + i))) (λ i. let e : i ≡ 0 + i = omega arith in ap (λ k. to (f k)) e))

module _ (x : Page) where
  abbrev threads : List ℕ
  threads = table_from (thread_row x.threadrows) x.threads 0

  abbrev mutexes : List ℕ
  mutexes = table_from (mutex_row x.mutexrows) x.mutexes 0

  abbrev ties : List ℕ
  ties = table_from (tie_row x.ties) x.conditions 0

  abbrev timers : List ℕ
  timers = table_from (timer_row x.timerrows) x.timers 0

  -- its header
  pub header : header_of (said x) ≡ header_for x
  unfolding header_of said
  header = λ i. packed
      (length_tabulate x.threads (λ t. thread_said (get_or x.threadrows t no_thread_row)) i)
      (length_tabulate x.mutexes (λ m. mutex_said (get_or x.mutexrows m no_mutex_row)) i)
      (length_tabulate x.conditions (λ c. get_or x.ties c 0) i)
      (length_tabulate x.timers (λ t. timer_said (get_or x.timerrows t no_timer_row)) i)
      (cond x.started 1 0)
      x.count

  -- the record of what the page says, by these tables
  parts : record_of (said x) ≡ header_bytes (header_for x) ++ (threads ++ (mutexes ++ (ties ++ timers)))
  unfolding record_of said header_of
  parts =
      ap₂ (λ h l. header_bytes h ++ l) header
      (ap₂ ◌++◌ (table thread_bytes x.threads (λ t. thread_said (get_or x.threadrows t no_thread_row)))
      (ap₂ ◌++◌ (table mutex_bytes x.mutexes (λ m. mutex_said (get_or x.mutexrows m no_mutex_row)))
      (ap₂ ◌++◌ (table tie_bytes x.conditions (λ c. get_or x.ties c 0)) (table timer_bytes x.timers (λ i. timer_said (get_or x.timerrows i no_timer_row))))))

  -- the length of the record
  pub total_is : 24 + 4 * x.threads + 4 * x.mutexes + 4 * x.conditions + 8 * x.timers ≡ length (record_of (said x))
  unfolding said
  total_is =
      sym (length_record (said x) ∙ ap₂ ◌+◌ (ap₂ ◌+◌ (ap₂ ◌+◌ (ap (λ k. 24 + 4 * k) (length_tabulate x.threads (λ t. thread_said (get_or x.threadrows t no_thread_row)))) (ap (λ k. 4 * k) (length_tabulate x.mutexes (λ m. mutex_said (get_or x.mutexrows m no_mutex_row))))) (ap (λ k. 4 * k) (length_tabulate x.conditions (λ c. get_or x.ties c 0)))) (ap (λ k. 8 * k) (length_tabulate x.timers (λ i. timer_said (get_or x.timerrows i no_timer_row)))))

  -- the header and the tables, stored one after the other
  pub whole_stored : {b₁ b₂ b₃ b₄ b₅ : List ℕ} (b : List ℕ)
      → b₁ ≡ sets b 0 (header_bytes (header_for x))
      → b₂ ≡ sets b₁ 24 threads
      → b₃ ≡ sets b₂ (24 + 4 * x.threads) mutexes
      → b₄ ≡ sets b₃ (24 + 4 * x.threads + 4 * x.mutexes) ties
      → b₅ ≡ sets b₄ (24 + 4 * x.threads + 4 * x.mutexes + 4 * x.conditions) timers
      → b₅ ≡ sets b 0 (record_of (said x))
  whole_stored {b₁} {b₂} {b₃} {b₄} {b₅} b e₁ e₂ e₃ e₄ e₅ =
      let h = header_bytes (header_for x) in
      let l₁ : 24 ≡ 0 + length h = sym (omega (arith, length_header (header_for x))) in
      let t = length_rows (thread_row x.threadrows) 4 (λ i. refl) x.threads 0 in
      let m = length_rows (mutex_row x.mutexrows) 4 (λ i. refl) x.mutexes 0 in
      let c = length_rows (tie_row x.ties) 4 (λ i. refl) x.conditions 0 in
      let l₂ : 24 + 4 * x.threads ≡ 0 + length (h ++ threads) = omega (arith, t, length_header (header_for x), length-append h threads) in
      let l₃ : 24 + 4 * x.threads + 4 * x.mutexes ≡ 0 + length ((h ++ threads) ++ mutexes) = omega (arith, t, m, length_header (header_for x), length-append h threads, length-append (h ++ threads) mutexes) in
      let l₄ : 24 + 4 * x.threads + 4 * x.mutexes + 4 * x.conditions ≡ 0 + length (((h ++ threads) ++ mutexes) ++ ties) = omega (arith, t, m, c, length_header (header_for x), length-append h threads, length-append (h ++ threads) mutexes, length-append ((h ++ threads) ++ mutexes) ties) in
      then b b₄ b₅ 0 _ (((h ++ threads) ++ mutexes) ++ ties) timers (then b b₃ b₄ 0 _ ((h ++ threads) ++ mutexes) ties (then b b₂ b₃ 0 _ (h ++ threads) mutexes (then b b₁ b₂ 0 24 h threads e₁ e₂ l₁) e₃ l₂) e₄ l₃) e₅ l₄
      ∙ ap (sets b 0) (regrouped h threads mutexes ties timers ∙ sym parts)
    where
      regrouped : (h a b c d : List ℕ) → (((h ++ a) ++ b) ++ c) ++ d ≡ h ++ (a ++ (b ++ (c ++ d)))
      regrouped h a b c d = append_assoc ((h ++ a) ++ b) c d ∙ append_assoc (h ++ a) b (c ++ d) ∙ append_assoc h a (b ++ (c ++ d))
