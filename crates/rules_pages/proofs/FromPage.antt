-- From a page to the state that it describes and back: the state of a sound page is sound, and its page is the one it came from.
-- Assumes nothing.
use Prim.Native.Nat.{ℕ, suc, ◌<◌, ◌≤◌}
use mathlib.Core.Path.{◌≡◌, refl, sym, ap, ◌∙◌}
use mathlib.Core.Bool.{Bool, true, false, cond, not, ◌&&◌}
use mathlib.Core.List.{List, [], ◌∷◌, map}
use native.Mathlib.Omega.{arith}
use lib.ListN.{length, get_or, length-map}
use lib.Dec.{eqb, ltb}
use borrow.Author.Tests.{eqb-true, eq-eqb, ltb-false, not-true}
use Rattle.laws.proofs.Bools.{by_cases, self, nor_right, and_left, and_right, and_both, cond_true, cond_false}
use Rattle.laws.proofs.Lists.{length_tabulate, get_d_tabulate}
use Rattle.units.specs.Units.{outside}
use Rattle.rules.specs.Queues.{empty_set, queue}
use Rattle.rules.specs.State.{Where, running, ready, for_mutex, on_condition, same, Thread, Mutex, Timer, Rows, no_mutex, thread, mutex, at, highest_ceiling, priority, set_at}
use Rattle.rules.specs.Sound.{all, each, mem, clauses, holds, queue_clauses, sound}
use Rattle.rules.specs.Page.{Page, no_row, thread_row, thread_of, timer_of, rows_of, in_queue, queue_of, set_of, described_by, together, place_sound, object_sound, thread_formed, timer_formed, each_row, page_formed, page_sound, state_code, object_code, ahead, place_at, row_at, timer_row_of, page_of}
use Rattle.rules_soundness.proofs.Tests.{AllTrue, all_true, true_all, each_at, at_each}
use Rattle.rules_soundness.proofs.Rows.{Real, not_running, standing_exists}
use Rattle.rules_soundness.proofs.Facts.{Facts, low}
use Rattle.rules_soundness.proofs.Holding.{fits_holds}
use Rattle.rules_soundness.proofs.Tested.{sound_facts}
use Rattle.rules_pages.proofs.Counts.{many_same}
use Rattle.rules_pages.proofs.Order.{ahead_many}
use Rattle.rules_pages.proofs.Rows.{state_found, object_found, timer_row_found, row_passes, map_back, tabulate_is, thread_of_lem}
use Rattle.rules_pages.proofs.Places.{same_running, stands_at_lem, place_in, AllPlaced, test_placed, in_table, who, ordered_place, set_queue, fits_of}

-- ---- priorities are low

-- a number that is not outside is not above
inside : (low high x : ℕ) → not (outside low high x) ≡ true → x ≤ high
inside low high x e = ltb-false high x (nor_right (ltb x low) (ltb high x) (not-true (outside low high x) e))

-- no ceiling is above 15
highest_low : (ms : List Mutex) (t : ℕ) → ((m : ℕ) → m < length ms → (get_or ms m no_mutex).ceiling ≤ 15) → highest_ceiling ms t < 16
unfolding highest_ceiling
highest_low [] t h = omega arith
highest_low (x ∷ ms) t h = by_cases (eqb x.owner t)
    (λ e. rw e (omega (arith, h 0 (omega arith), highest_low ms t (λ m l. h (suc m) (omega arith)))))
    (λ e. rw e (omega (arith, highest_low ms t (λ m l. h (suc m) (omega arith)))))

-- so no base and no priority is
module _ (k : Rows) (count : ℕ) (ts : List Timer) (c : AllTrue (clauses k count ts)) where
  abbrev base_test : ℕ → Bool
  base_test t = cond (eqb t 0) (eqb (thread k t).base 0) (not (outside 1 15 (thread k t).base))

  base_low : (t : ℕ) → t < length k.threads → (thread k t).base < 16
  base_low t l = go (eqb t 0) (each_at (length k.threads) base_test c.1.0 t l)
    where
      go : (b : Bool) → cond b (eqb (thread k t).base 0) (not (outside 1 15 (thread k t).base)) ≡ true → (thread k t).base < 16
      go true e = omega (arith, eqb-true (thread k t).base 0 e)
      go false e = omega (arith, inside 1 15 (thread k t).base e)

  priority_low : (t : ℕ) → t < length k.threads → priority k t < 16
  unfolding priority
  priority_low t l = omega (arith, base_low t l, highest_low k.mutexes t (λ m z. inside 1 15 (mutex k m).ceiling (each_at (length k.mutexes) (λ i. not (outside 1 15 (mutex k i).ceiling)) c.1.1.0 m z)))

-- ---- the queues of the state

-- at each place that exists stands the set that the page describes there
set_described : (p : Page) (w : Where) → Real (rows_of p) w → set_at (described_by p).scheduler.sets w ≡ set_of p w
unfolding described_by rows_of set_at
set_described p running r = absurd r
set_described p ready r = refl
set_described p (for_mutex m) r = get_d_tabulate (length p.mutexes) (λ i. set_of p (for_mutex i)) m empty_set r
set_described p (on_condition c) r = get_d_tabulate (length p.ties) (λ i. set_of p (on_condition i)) c empty_set r

-- what a sound page says
module _ (p : Page) (e : page_sound p ≡ true) where
  -- its three parts
  abbrev clauses_hold : Bool
  clauses_hold = all (clauses (rows_of p) p.count (map timer_of p.timers))

  abbrev objects_hold : Bool
  objects_hold = each_row object_sound p.threads

  abbrev places_hold : Bool
  places_hold = each (length p.threads) (place_sound p)

  -- and what each tells
  two : (clauses_hold && objects_hold) ≡ true
  two = unfold page_sound in (and_left (clauses_hold && objects_hold) places_hold e)

  pub placed : AllPlaced p
  placed t l = test_placed p t (each_at (length p.threads) (place_sound p) (unfold page_sound in (and_right (clauses_hold && objects_hold) places_hold e)) t l)

  pub objects_sound_lem : each_row object_sound p.threads ≡ true
  objects_sound_lem = and_right clauses_hold objects_hold two

  tests : AllTrue (clauses (rows_of p) p.count (map timer_of p.timers))
  tests = all_true (clauses (rows_of p) p.count (map timer_of p.timers)) (and_left clauses_hold objects_hold two)

  -- each set of queues holds exactly those who stand there
  held : (w : Where) → Real (rows_of p) w → holds (rows_of p) w (set_at (described_by p).scheduler.sets w) ≡ true
  held w r =
      let n = not_running (length (rows_of p).mutexes) (length (rows_of p).ties) w r in
      rw (set_described p w r)
      (fits_holds (rows_of p) w n (set_of p w)
      (fits_of p placed w n (λ u a. priority_low (rows_of p) p.count (map timer_of p.timers) tests u (standing_exists (rows_of p) w u n a))))

  -- so the state's own clauses hold
  queues_hold : all (queue_clauses (rows_of p) (described_by p).scheduler.sets) ≡ true
  queues_hold = true_all (queue_clauses (rows_of p) (described_by p).scheduler.sets) (
    held ready tt,
    (
      eq-eqb (length (described_by p).scheduler.sets.mutex) (length (rows_of p).mutexes) (unfold described_by rows_of in (length_tabulate (length p.mutexes) (λ m. set_of p (for_mutex m)))),
      (
        at_each (length (rows_of p).mutexes) (λ m. holds (rows_of p) (for_mutex m) (set_at (described_by p).scheduler.sets (for_mutex m))) (λ m l. held (for_mutex m) l),
        (
          eq-eqb (length (described_by p).scheduler.sets.condition) (length (rows_of p).ties) (unfold described_by rows_of in (length_tabulate (length p.ties) (λ c. set_of p (on_condition c)))),
          (at_each (length (rows_of p).ties) (λ c. holds (rows_of p) (on_condition c) (set_at (described_by p).scheduler.sets (on_condition c))) (λ c l. held (on_condition c) l), tt),
        ),
      ),
    ),
  )

  -- the state of a sound page is sound
  pub described_sound : sound (described_by p) ≡ true
  unfolding sound described_by
  described_sound = and_both clauses_hold (all (queue_clauses (rows_of p) (described_by p).scheduler.sets)) (and_left clauses_hold objects_hold two) (unfold described_by in queues_hold)

  -- ---- and back

  -- the rows' facts, now that the state is sound
  facts : Facts (rows_of p)
  facts = unfold described_by in (sound_facts (described_by p) described_sound).facts

  -- a thread in a queue has as many in front as its place says
  queued_back : (t : ℕ) → t < length p.threads → at (rows_of p) running t ≡ false
      → ahead t (queue (set_at (described_by p).scheduler.sets (thread (rows_of p) t).stands) (priority (rows_of p) t)) ≡ place_in p t
  queued_back t l r =
      ap (λ qs. ahead t (queue qs q)) (set_described p w (facts.real w t n (stands_at_lem (rows_of p) t)))
      ∙ ap (ahead t) (set_queue p w q (low facts t))
      ∙ sym (ahead_many (length p.threads) (place_in p) (queue_of p w q) (ordered_place p placed w n q) there t (who p placed w n q t ∙ itself))
      ∙ many_same (length p.threads) (λ u. mem u (queue_of p w q) && ltb (place_in p u) (place_in p t)) (λ u. together (rows_of p) t u && ltb (place_in p u) (place_in p t)) (λ u z. rw (who p placed w n q u))
      ∙ (placed t l).counted r
    where
      w : Where
      w = (thread (rows_of p) t).stands

      q : ℕ
      q = priority (rows_of p) t

      n : same running (thread (rows_of p) t).stands ≡ false
      n = sym (same_running (thread (rows_of p) t).stands) ∙ (unfold at in r)

      itself : in_queue (rows_of p) (thread (rows_of p) t).stands (priority (rows_of p) t) t ≡ true
      itself = and_both (at (rows_of p) (thread (rows_of p) t).stands t) (eqb (priority (rows_of p) t) (priority (rows_of p) t)) (stands_at_lem (rows_of p) t) (self (priority (rows_of p) t))

      there : (u : ℕ) → mem u (queue_of p (thread (rows_of p) t).stands (priority (rows_of p) t)) ≡ true → u < length p.threads
      there u m = in_table p placed w n u (and_left (at (rows_of p) w u) (eqb (priority (rows_of p) u) q) (sym (who p placed w n q u) ∙ m))

  -- and one that runs has place 0
  place_back : (t : ℕ) → t < length p.threads → place_at (described_by p).scheduler t ≡ place_in p t
  unfolding described_by
  place_back t l = by_cases (at (rows_of p) running t)
      (λ r. cond_true (at (rows_of p) running t) 0 (ahead t front) r ∙ sym ((placed t l).runs r))
      (λ r. cond_false (at (rows_of p) running t) 0 (ahead t front) r ∙ (unfold described_by in (queued_back t l r)))
    where
      front : List ℕ
      front = queue (set_at (described_by p).scheduler.sets (thread (rows_of p) t).stands) (priority (rows_of p) t)

  -- where the states are among those that a record has
  module _ (formed : page_formed p ≡ true) where
    row_formed : (t : ℕ) → t < length p.threads → thread_formed (thread_row p t) ≡ true
    row_formed t l = row_passes thread_formed p.threads t no_row (and_left (each_row thread_formed p.threads) (each_row timer_formed p.timers) (unfold page_formed in formed)) l

    -- each row is found again
    row_back : (t : ℕ) → t < length p.threads → row_at (described_by p).scheduler t ≡ thread_row p t
    row_back t l = λ i. record { base = base i; state = state i; object = object i; place = place_back t l i }
      where
        is : thread (described_by p).scheduler.rows t ≡ thread_of (thread_row p t)
        is = unfold described_by in (thread_of_lem p t)

        base : (thread (described_by p).scheduler.rows t).base ≡ (thread_row p t).base
        base = ap (λ (x : Thread). x.base) is

        state : state_code (thread (described_by p).scheduler.rows t).stands ≡ (thread_row p t).state
        state = ap (λ (x : Thread). state_code x.stands) is ∙ state_found (thread_row p t) (row_formed t l)

        object : object_code (thread (described_by p).scheduler.rows t).stands ≡ (thread_row p t).object
        object = ap (λ (x : Thread). object_code x.stands) is
            ∙ object_found (thread_row p t) (row_formed t l) (row_passes object_sound p.threads t no_row (and_right clauses_hold objects_hold two) l)

    -- the page of the state that a sound page describes is that page
    pub page_back : page_of (described_by p) ≡ p
    page_back = λ i. unfold page_of described_by rows_of in record { started = p.started; count = p.count; threads = threads i; mutexes = p.mutexes; ties = p.ties; timers = timers i }
      where
        many : length (described_by p).scheduler.rows.threads ≡ length p.threads
        many = unfold described_by rows_of in (length-map p.threads thread_of)

        threads : (page_of (described_by p)).threads ≡ p.threads
        threads = unfold page_of in (tabulate_is no_row (length (described_by p).scheduler.rows.threads) (row_at (described_by p).scheduler) p.threads (sym many) (λ t l. row_back t (rw many at l)))

        timers : (page_of (described_by p)).timers ≡ p.timers
        timers = unfold page_of described_by in (map_back timer_formed timer_of timer_row_of timer_row_found p.timers
            (and_right (each_row thread_formed p.threads) (each_row timer_formed p.timers) (unfold page_formed in formed)))
