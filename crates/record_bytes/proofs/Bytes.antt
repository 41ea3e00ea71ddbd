-- The record of a sound state is a list of bytes: each of its numbers fits the bytes that the document gives it.
-- Assumes nothing.
use Prim.Native.Nat.{ℕ, zero, suc, ◌/◌, ◌%◌, ◌<◌, ◌≤◌}
use mathlib.Core.Path.{◌≡◌, refl, sym, ap, subst}
use mathlib.Core.Bool.{Bool, true, false, cond, ◌&&◌}
use mathlib.Core.List.{List, [], ◌∷◌, ◌++◌, map, flatten}
use native.Mathlib.Omega.{arith}
use lib.ListN.{length, get_or, length-map}
use lib.Dec.{eqb, ltb}
use borrow.Author.Tests.{eqb-true, ltb-true}
use Rattle.laws.specs.Lists.{tabulate}
use Rattle.laws.proofs.Bools.{by_cases, and_left, and_right}
use Rattle.laws.proofs.Lists.{by_equal, length_tabulate, get_d_tabulate}
use Rattle.rules.specs.State.{Where, running, ready, for_mutex, on_condition, TimerState, stopped, one_shot, periodic, Timer, Rows, State, no_mutex, thread, mutex, tied, at}
use Rattle.rules.specs.Effects.{goes}
use Rattle.rules.specs.Sound.{all, each, exists, anyone, condition_sound, timer_sound, timers_sound, clauses, queue_clauses, sound}
use Rattle.rules.specs.Page.{ThreadRow, Page, no_row, thread_row, timer_of, rows_of, how_many, together, object_sound, place_sound, each_row, page_sound, state_code, object_code, timer_code, place_at, row_at, timer_row_of, page_of}
use Rattle.rules_soundness.proofs.Tests.{AllTrue, all_true, each_at}
use Rattle.rules_soundness.proofs.Facts.{Sound}
use Rattle.rules_soundness.proofs.Timers.{going_timer}
use Rattle.rules_soundness.proofs.Tested.{sound_facts}
use Rattle.rules_pages.proofs.Places.{test_placed}
use Rattle.rules_pages.proofs.Pages.{page_of_sound}
use Rattle.record_bytes.specs.Record.{AreBytes, word, packed, header_words, header_bytes, thread_bytes, mutex_bytes, tie_bytes, timer_bytes, header_of, record_of}
use Rattle.record_bytes.specs.Loading.{saved}

-- ---- lists of bytes

-- no byte
none : AreBytes []
none i = omega arith

-- one byte more
one_more : (n : ℕ) (l : List ℕ) → n < 256 → AreBytes l → AreBytes (n ∷ l)
one_more n l h b zero = h
one_more n l h b (suc i) = b i

-- two lists, one behind the other
both : (xs ys : List ℕ) → AreBytes xs → AreBytes ys → AreBytes (xs ++ ys)
both [] ys a b i = b i
both (x ∷ xs) ys a b zero = a 0
both (x ∷ xs) ys a b (suc i) = both xs ys (λ j. a (suc j)) b i

-- a number below 65,536 is two bytes
of_word : (n : ℕ) → n < 65536 → AreBytes (word n)
of_word n h = one_more (n % 256) (n / 256 ∷ []) (omega arith) (one_more (n / 256) [] (omega arith) none)

-- a table whose rows are
of_table : {Row : Type 0} (to : Row → List ℕ) (d : Row) (xs : List Row) → ((i : ℕ) → i < length xs → AreBytes (to (get_or xs i d))) → AreBytes (flatten (map to xs))
unfolding flatten
of_table to d [] h = none
of_table to d (x ∷ xs) h = both (to x) (flatten (map to xs)) (h 0 (omega arith)) (of_table to d xs (λ i l. h (suc i) (omega arith)))

-- numbers below 65,536
abbrev Low : List ℕ → Type 0
Low [] = Unit {0}
Low (n ∷ ns) = (n < 65536) × Low ns

of_words : (ns : List ℕ) → Low ns → AreBytes (flatten (map word ns))
unfolding flatten
of_words [] h = none
of_words (n ∷ ns) h = both (word n) (flatten (map word ns)) (of_word n h.0) (of_words ns h.1)

-- a header of counts within the limits
header_bytes_lem : (t m c i started count : ℕ) → t ≤ 32 → m ≤ 16 → c ≤ 16 → i ≤ 32 → started ≤ 1 → count < 4294967296 → AreBytes (header_bytes (packed t m c i started count))
unfolding header_bytes
header_bytes_lem t m c i started count ht hm hc hi hs hn = of_words (header_words (packed t m c i started count)) (
  omega arith,
  (omega arith, (omega arith, (omega arith, (omega arith, (omega arith, (omega arith, (omega arith, (omega arith, (omega arith, (omega arith, (omega arith, tt))))))))))),
)

-- ---- the fields

-- a thread state
state_byte : (w : Where) → state_code w < 256
unfolding state_code
state_byte running = omega arith
state_byte ready = omega arith
state_byte (for_mutex m) = omega arith
state_byte (on_condition c) = omega arith

-- an object that exists
object_byte : (k : Rows) (w : Where) → length k.mutexes ≤ 16 → length k.ties ≤ 16 → exists k w ≡ true → object_code w < 256
unfolding object_code
object_byte k running a b e = omega arith
object_byte k ready a b e = omega arith
object_byte k (for_mutex m) a b e = omega (arith, ltb-true m (length k.mutexes) e)
object_byte k (on_condition c) a b e = omega (arith, ltb-true c (length k.ties) e)

-- no more than n are among n
many_most : (n : ℕ) (f : ℕ → Bool) → how_many n f ≤ n
unfolding how_many
many_most zero f = omega arith
many_most (suc n) f = by_cases (f n) (λ e. rw e (omega (arith, many_most n f))) (λ e. rw e (omega (arith, many_most n f)))

-- a place in a queue is at most the number of threads, as it counts threads
place_low : (p : Page) → page_sound p ≡ true → (t : ℕ) → t < length p.threads → (thread_row p t).place ≤ length p.threads
unfolding page_sound
place_low p e t l =
    let others = all (clauses (rows_of p) p.count (map timer_of p.timers)) && each_row object_sound p.threads in
    let placed = test_placed p t (each_at (length p.threads) (place_sound p) (and_right others (each (length p.threads) (place_sound p)) e) t l) in
    by_cases (at (rows_of p) running t)
    (λ r. omega (arith, placed.runs r))
    (λ r. omega (arith, placed.counted r, many_most (length p.threads) (λ u. together (rows_of p) t u && ltb (thread_row p u).place (thread_row p t).place)))

-- a timer of condition variable c, length n and r ticks left
module _ (k : Rows) (few : length k.ties ≤ 16) (c n r : ℕ) where
  -- its bytes
  timer_written : (code : ℕ) → code < 256 → c < 256 → n < 65536 → r < 65536 → AreBytes (code ∷ c ∷ word n ++ word r ++ word 0)
  timer_written code a b d f =
      both (code ∷ c ∷ word n ++ word r) (word 0)
      (both (code ∷ c ∷ word n) (word r) (one_more code (c ∷ word n) a (one_more c (word n) b (of_word n d))) (of_word r f)) (of_word 0 (omega arith))

  -- if it runs
  running_written : (q : TimerState) → goes q ≡ true → (code : ℕ) → code < 256 → timer_sound k (record { state = q; condition = c; length = n; left = r }) ≡ true → AreBytes (code ∷ c ∷ word n ++ word r ++ word 0)
  running_written q runs code a e =
      let g = going_timer k (record { state = q; condition = c; length = n; left = r }) runs e in
      timer_written code a (omega (arith, g.exists)) (omega (arith, g.fits)) (omega (arith, g.short))

  -- in any state, where it is sound
  timer_bytes_lem : (q : TimerState) → timer_sound k (record { state = q; condition = c; length = n; left = r }) ≡ true → AreBytes (timer_bytes (record { state = timer_code q; condition = c; length = n; left = r }))
  unfolding timer_code
  timer_bytes_lem stopped e =
      let two = and_left (eqb c 255 && eqb n 0) (eqb r 0) e in
      timer_written 0 (omega arith) (omega (arith, eqb-true c 255 (and_left (eqb c 255) (eqb n 0) two)))
      (omega (arith, eqb-true n 0 (and_right (eqb c 255) (eqb n 0) two))) (omega (arith, eqb-true r 0 (and_right (eqb c 255 && eqb n 0) (eqb r 0) e)))
  timer_bytes_lem one_shot e = running_written one_shot refl 1 (omega arith) e
  timer_bytes_lem periodic e = running_written periodic refl 2 (omega arith) e

-- all timers
timers_bytes : (k : Rows) (xs : List Timer) → length k.ties ≤ 16 → timers_sound k xs ≡ true → AreBytes (flatten (map timer_bytes (map timer_row_of xs)))
unfolding flatten timers_sound
timers_bytes k [] few e = none
timers_bytes k (x ∷ xs) few e =
    both (timer_bytes (timer_row_of x)) (flatten (map timer_bytes (map timer_row_of xs)))
    (timer_bytes_lem k few x.condition x.length x.left x.state (and_left (timer_sound k x) (timers_sound k xs) e)) (timers_bytes k xs few (and_right (timer_sound k x) (timers_sound k xs) e))

-- ---- a sound state

module _ (s : State) (e : sound s ≡ true) where
  -- its rows
  abbrev k : Rows
  k = s.scheduler.rows

  -- what is so of it
  facts : Sound s
  facts = sound_facts s e

  -- and each clause
  tests : AllTrue (clauses s.scheduler.rows s.count s.timers)
  tests = all_true (clauses k s.count s.timers) (unfold sound in (and_left (all (clauses k s.count s.timers)) (all (queue_clauses k s.scheduler.sets)) (unfold sound in e)))

  -- a place in a queue
  place_byte : (t : ℕ) → t < length s.scheduler.rows.threads → place_at s.scheduler t < 256
  unfolding page_of
  place_byte t l =
      let count = length_tabulate (length k.threads) (row_at s.scheduler) in
      let row = get_d_tabulate (length k.threads) (row_at s.scheduler) t no_row l in
      let low = place_low (page_of s) (page_of_sound s e).1 t (omega (arith, count)) in
      omega (arith, low, count, facts.facts.few, ap (λ (x : ThreadRow). x.place) row)

  -- each row
  thread_bytes_lem : (t : ℕ) → t < length s.scheduler.rows.threads → AreBytes (thread_bytes (row_at s.scheduler t))
  thread_bytes_lem t l =
      let x = row_at s.scheduler t in
      one_more x.base (x.state ∷ x.object ∷ x.place ∷ []) (omega (arith, facts.facts.bases t))
      (one_more x.state (x.object ∷ x.place ∷ []) (state_byte (thread k t).stands)
      (one_more x.object (x.place ∷ []) (object_byte k (thread k t).stands facts.facts.few_mutexes facts.facts.few_ties (each_at (length k.threads) (λ u. exists k (thread k u).stands) tests.1.1.1.1.1.1.0 t l))
      (one_more x.place [] (place_byte t l) none)))

  mutex_bytes_lem : (m : ℕ) → AreBytes (mutex_bytes (mutex s.scheduler.rows m))
  mutex_bytes_lem m =
      let x = mutex k m in
      let fits : (x.owner < 256) × (x.count < 256) = by_equal x.owner 255
      (λ q. (omega (arith, q), omega (arith, facts.facts.uncounted m q)))
      (λ q. let w = facts.facts.held m q in (omega (arith, w.exists, facts.facts.few), omega (arith, w.most))) in
      one_more x.ceiling (x.owner ∷ x.count ∷ 0 ∷ []) (omega (arith, facts.facts.ceilings m))
      (one_more x.owner (x.count ∷ 0 ∷ []) fits.0 (one_more x.count (0 ∷ []) fits.1 (one_more 0 [] (omega arith) none)))

  tie_bytes_lem : (c : ℕ) → c < length s.scheduler.rows.ties → AreBytes (tie_bytes (tied s.scheduler.rows c))
  tie_bytes_lem c l = one_more (tied k c) (0 ∷ 0 ∷ 0 ∷ []) (go (anyone k (on_condition c)) test) (one_more 0 (0 ∷ 0 ∷ []) (omega arith) (one_more 0 (0 ∷ []) (omega arith) (one_more 0 [] (omega arith) none)))
    where
      test : cond (anyone s.scheduler.rows (on_condition c)) (ltb (tied s.scheduler.rows c) (length s.scheduler.rows.mutexes)) (eqb (tied s.scheduler.rows c) 255) ≡ true
      test = and_left _ _ (each_at (length k.ties) (condition_sound k) tests.1.1.1.1.1.1.1.1.0 c l)

      go : (b : Bool) → cond b (ltb (tied s.scheduler.rows c) (length s.scheduler.rows.mutexes)) (eqb (tied s.scheduler.rows c) 255) ≡ true → tied s.scheduler.rows c < 256
      go true z = omega (arith, ltb-true (tied k c) (length k.mutexes) z, facts.facts.few_mutexes)
      go false z = omega (arith, eqb-true (tied k c) 255 z)

  -- its record is a list of bytes
  pub record_is_bytes : AreBytes (saved s)
  unfolding record_of header_of page_of
  record_is_bytes =
      both (header_bytes (header_of p)) (threads ++ (mutexes ++ (ties ++ timers)))
      (header_bytes_lem _ _ _ _ _ s.count (omega (arith, count, facts.facts.few)) facts.facts.few_mutexes facts.facts.few_ties (omega (arith, length-map s.timers timer_row_of, facts.few_timers)) (flag k.started) facts.count)
      (both threads (mutexes ++ (ties ++ timers)) (of_table thread_bytes no_row p.threads row)
      (both mutexes (ties ++ timers) (of_table mutex_bytes no_mutex k.mutexes (λ m l. mutex_bytes_lem m))
      (both ties timers (of_table tie_bytes 255 k.ties tie_bytes_lem) (timers_bytes k s.timers facts.facts.few_ties facts.timers))))
    where
      p : Page
      p = page_of s

      threads : List ℕ
      threads = flatten (map thread_bytes (page_of s).threads)

      mutexes : List ℕ
      mutexes = flatten (map mutex_bytes s.scheduler.rows.mutexes)

      ties : List ℕ
      ties = flatten (map tie_bytes s.scheduler.rows.ties)

      timers : List ℕ
      timers = flatten (map timer_bytes (map timer_row_of s.timers))

      count : length (tabulate (length s.scheduler.rows.threads) (row_at s.scheduler)) ≡ length s.scheduler.rows.threads
      count = length_tabulate (length k.threads) (row_at s.scheduler)

      row : (i : ℕ) → i < length (tabulate (length s.scheduler.rows.threads) (row_at s.scheduler)) → AreBytes (thread_bytes (get_or (tabulate (length s.scheduler.rows.threads) (row_at s.scheduler)) i no_row))
      row i l =
          let z : i < length k.threads = omega (arith, count) in
          subst (λ x. AreBytes (thread_bytes x)) (sym (get_d_tabulate (length k.threads) (row_at s.scheduler) i no_row z)) (thread_bytes_lem i z)

      flag : (b : Bool) → cond b 1 0 ≤ 1
      flag true = omega arith
      flag false = omega arith
