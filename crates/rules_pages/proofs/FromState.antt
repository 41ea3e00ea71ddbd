-- From a sound state to its page and back: the page is formed and sound, and describes the state.
-- Assumes nothing.
use Prim.Native.Nat.{ℕ, ◌<◌, ◌≤◌}
use mathlib.Core.Path.{◌≡◌, refl, sym, ap, ap₂, ◌∙◌, subst, fun_ext}
use mathlib.Core.Bool.{Bool, true, false, ◌&&◌}
use mathlib.Core.List.{List, [], map}
use native.Mathlib.Omega.{arith}
use native.Mathlib.Nat.{zero-add}
use lib.ListN.{length, length-map, get_or-eq_default}
use lib.Seq.{ext_get_or}
use lib.Dec.{eqb, ltb}
use borrow.Author.Tests.{eqb-true, eq-eqb}
use Rattle.laws.specs.Lists.{tabulate}
use Rattle.laws.proofs.Bools.{by_cases, self, and_left, and_right, and_both, cond_true, cond_false}
use Rattle.laws.proofs.Lists.{by_below, length_tabulate, get_d_tabulate}
use Rattle.rules.specs.Queues.{empty_set, queue}
use Rattle.rules.specs.State.{Where, running, ready, for_mutex, on_condition, same, Scheduler, State, no_thread, thread, at, priority, set_at}
use Rattle.rules.specs.Sound.{all, each, mem, clauses}
use Rattle.rules.specs.Page.{ThreadRow, no_row, thread_row, thread_of, timer_of, runner_from, rows_of, in_queue, queue_of, set_of, described_by, how_many, place_sound, object_sound, thread_formed, timer_formed, each_row, page_formed, page_sound, state_code, object_code, ahead, place_at, row_at, timer_row_of, page_of}
use Rattle.rules_soundness.proofs.Tests.{iff, at_each}
use Rattle.rules_soundness.proofs.Fits.{ordered_mono, Fits, here, here_prio, there}
use Rattle.rules_soundness.proofs.Rows.{Real, not_running, standing_exists}
use Rattle.rules_soundness.proofs.Facts.{Apart, Facts, Queued, Sound, low}
use Rattle.rules_pages.proofs.Counts.{many_same, many_one}
use Rattle.rules_pages.proofs.Order.{unique, ahead_ordered, ahead_one, ahead_many}
use Rattle.rules_pages.proofs.Sorted.{Before, before_asym}
use Rattle.rules_pages.proofs.Rows.{where_found, state_formed, object_formed, timer_found, timer_formed_lem, tabulate_passes, map_passes, map_back, all_pass, tabulate_is, thread_of_lem, runner_is, runner_none}
use Rattle.rules_pages.proofs.Places.{same_running, stands_at_lem, at_stands, not_run, Placed, place_in, AllPlaced, placed_test, who, ordered_before}

-- ---- the places

-- a scheduler whose queues hold exactly those who stand there
module _ (h : Scheduler) (facts : Facts h.rows) (queued : Queued h.rows h.sets) where
  -- one place of it
  module _ (w : Where) (r : Real h.rows w) where
    -- the queue of priority q there
    abbrev line : ℕ → List ℕ
    line q = queue (set_at h.sets w) q

    fits : Fits (at h.rows w) (priority h.rows) Apart (set_at h.sets w)
    fits = queued.fits w r

    apart : same running w ≡ false
    apart = not_running (length h.rows.mutexes) (length h.rows.ties) w r

    -- the place of whoever is in a queue is how many stand in front
    place_in_lem : (q u : ℕ) → q < 16 → mem u (line q) ≡ true → place_at h u ≡ ahead u (line q)
    place_in_lem q u l m =
        cond_false (at h.rows running u) 0 (ahead u (queue (set_at h.sets (thread h.rows u).stands) (priority h.rows u))) (not_run h.rows w u apart (here fits q u l m))
        ∙ ap₂ (λ v x. ahead u (queue (set_at h.sets v) x)) (at_stands h.rows w u (here fits q u l m)) (here_prio fits q u l m)

    -- of a thread in a queue
    module _ (q t : ℕ) (l : q < 16) (m : mem t (queue (set_at h.sets w) q) ≡ true) where
      -- to compare places is to compare how many stand in front
      alike : (compare : ℕ → ℕ → Bool) (u : ℕ) → (in_queue h.rows w q u && compare (place_at h u) (place_at h t)) ≡ (mem u (line q) && compare (ahead u (line q)) (ahead t (line q)))
      alike compare u = ap (λ b. b && compare (place_at h u) (place_at h t)) (sym (fits.who q u l)) ∙ by_cases (mem u (line q))
          (λ y. rw y (ap₂ compare (place_in_lem q u l y) (place_in_lem q t l m)))
          (λ y. rw y)

      -- as many there have a smaller place as its place says
      counted : how_many (length h.rows.threads) (λ u. in_queue h.rows w q u && ltb (place_at h u) (place_at h t)) ≡ place_at h t
      counted =
          many_same (length h.rows.threads) (λ u. in_queue h.rows w q u && ltb (place_at h u) (place_at h t)) (λ u. mem u (line q) && ltb (ahead u (line q)) (ahead t (line q))) (λ u z. alike ltb u)
          ∙ ahead_many (length h.rows.threads) (λ u. ahead u (line q)) (line q) (ahead_ordered (line q) (fits.order q l)) (λ u y. standing_exists h.rows w u apart (here fits q u l y)) t m
          ∙ sym (place_in_lem q t l m)

      -- and it alone has its place
      single : how_many (length h.rows.threads) (λ u. in_queue h.rows w q u && eqb (place_at h u) (place_at h t)) ≡ 1
      single = many_one (length h.rows.threads) t (λ u. in_queue h.rows w q u && eqb (place_at h u) (place_at h t)) (standing_exists h.rows w t apart (here fits q t l m))
          (λ u z. alike eqb u ∙ iff (mem u (line q) && eqb (ahead u (line q)) (ahead t (line q))) (eqb u t)
          (λ y. eq-eqb u t (ahead_one (line q) t u m (and_left (mem u (line q)) (eqb (ahead u (line q)) (ahead t (line q))) y)
          (eqb-true (ahead u (line q)) (ahead t (line q)) (and_right (mem u (line q)) (eqb (ahead u (line q)) (ahead t (line q))) y))))
          (λ y. rw (eqb-true u t y) (and_both (mem t (line q)) (eqb (ahead t (line q)) (ahead t (line q))) m (self (ahead t (line q))))))

  -- the places are sound
  placed_found : (t : ℕ) → Placed (length h.rows.threads) h.rows (place_at h) t
  placed_found t = record {
    runs = λ e. cond_true (at h.rows running t) 0 (ahead t (queue (set_at h.sets w) q)) e;
    counted = λ e. counted w (real e) q t (low facts t) (inside e);
    single = λ e. single w (real e) q t (low facts t) (inside e);
  }
    where
      w : Where
      w = (thread h.rows t).stands

      q : ℕ
      q = priority h.rows t

      real : at h.rows running t ≡ false → Real h.rows (thread h.rows t).stands
      real e = facts.real w t (sym (same_running w) ∙ (unfold at in e)) (stands_at_lem h.rows t)

      inside : at h.rows running t ≡ false → mem t (queue (set_at h.sets (thread h.rows t).stands) (priority h.rows t)) ≡ true
      inside e = there (queued.fits w (real e)) t (stands_at_lem h.rows t)

-- ---- the rows

-- a row of the page, also outside the table
pub row_found : (s : State) (t : ℕ) → thread_row (page_of s) t ≡ row_at s.scheduler t
unfolding page_of
row_found s t = by_below t n (get_d_tabulate n (row_at s.scheduler) t no_row) (λ l.
    get_or-eq_default (tabulate n (row_at s.scheduler)) no_row (rw (length_tabulate n (row_at s.scheduler)) l) ∙ sym (outside l))
  where
    n : ℕ
    n = length s.scheduler.rows.threads

    outside : length s.scheduler.rows.threads ≤ t → row_at s.scheduler t ≡ no_row
    outside l = unfold at same state_code object_code in (rw (get_or-eq_default s.scheduler.rows.threads no_thread l))

-- as many rows as threads
size_found : (s : State) → length (page_of s).threads ≡ length s.scheduler.rows.threads
unfolding page_of
size_found s = length_tabulate (length s.scheduler.rows.threads) (row_at s.scheduler)

-- the threads are told by the rows
threads_found : (s : State) → (rows_of (page_of s)).threads ≡ s.scheduler.rows.threads
threads_found s = ext_get_or no_thread (rows_of (page_of s)).threads s.scheduler.rows.threads (unfold rows_of in (length-map (page_of s).threads thread_of ∙ size_found s)) (λ t l.
    thread_of_lem (page_of s) t ∙ ap thread_of (row_found s t)
    ∙ ap (λ w. record { base = (thread s.scheduler.rows t).base; stands = w }) (where_found (thread s.scheduler.rows t).stands))

module _ (s : State) (o : Sound s) where
  -- the one running thread if started, none if stopped
  runner_found : runner_from 0 s.scheduler.rows.threads ≡ s.scheduler.rows.runner
  runner_found = by_cases s.scheduler.rows.started
      (λ on. runner_is s.scheduler.rows.threads 0 s.scheduler.rows.runner (o.live on).there (o.live on).runs (o.live on).only ∙ zero-add s.scheduler.rows.runner)
      (λ off. runner_none s.scheduler.rows.threads 0 (λ u l. unfold at in (not_run s.scheduler.rows ready u (unfold same in refl) ((o.rests off).ready u l))) ∙ sym (o.rests off).runner)

  -- the page's rows are the state's
  rows_found : rows_of (page_of s) ≡ s.scheduler.rows
  rows_found = λ i. unfold rows_of page_of in record { started = s.scheduler.rows.started; runner = runner i; threads = threads_found s i; mutexes = s.scheduler.rows.mutexes; ties = s.scheduler.rows.ties }
    where
      runner : (rows_of (page_of s)).runner ≡ s.scheduler.rows.runner
      runner = unfold rows_of in (ap (runner_from 0) (unfold rows_of in (threads_found s)) ∙ runner_found)

  -- the page's places are sound
  all_placed : AllPlaced (page_of s)
  all_placed t l = subst (λ (place : ℕ → ℕ). Placed (length (page_of s).threads) (rows_of (page_of s)) place t) (sym (fun_ext (λ u. ap (λ (x : ThreadRow). x.place) (row_found s u))))
      (rw (size_found s, rows_found) (placed_found s.scheduler o.facts o.queued t))

  -- ---- the queues

  module _ (w : Where) (r : Real s.scheduler.rows w) where
    -- the queue that the page describes has the same threads in the same order
    queue_found : (q : ℕ) → q < 16 → queue_of (page_of s) w q ≡ queue (set_at s.scheduler.sets w) q
    queue_found q l = unique (Before (place_in (page_of s))) (before_asym (place_in (page_of s))) (queue_of (page_of s) w q) own
        (ordered_before (page_of s) w q)
        (ordered_mono (λ u v. ahead u own < ahead v own) (Before (place_in (page_of s))) own
        (λ u v a b h. (omega (arith, found u a, found v b), λ z. omega (arith, found u a, found v b, z))) (ahead_ordered own ((o.queued.fits w r).order q l)))
        (λ u. who (page_of s) all_placed w none q u ∙ ap (λ x. in_queue x w q u) rows_found ∙ sym ((o.queued.fits w r).who q u l))
      where
        own : List ℕ
        own = queue (set_at s.scheduler.sets w) q

        none : same running w ≡ false
        none = apart s.scheduler o.facts o.queued w r

        found : (u : ℕ) → mem u (queue (set_at s.scheduler.sets w) q) ≡ true → place_in (page_of s) u ≡ ahead u (queue (set_at s.scheduler.sets w) q)
        found u m = ap (λ (x : ThreadRow). x.place) (row_found s u) ∙ place_in_lem s.scheduler o.facts o.queued w r q u l m

    -- and so has each set
    set_found : set_of (page_of s) w ≡ set_at s.scheduler.sets w
    unfolding set_of
    set_found = tabulate_is [] 16 (queue_of (page_of s) w) (set_at s.scheduler.sets w) (o.queued.fits w r).size queue_found

  -- ---- the page

  -- the timers are told by their rows
  timers_found : map timer_of (page_of s).timers ≡ s.timers
  unfolding page_of
  timers_found = map_back (λ x. true) timer_row_of timer_of (λ x z. timer_found x) s.timers (all_pass s.timers)

  -- the page of a sound state is sound
  pub page_sound_lem : all (clauses s.scheduler.rows s.count s.timers) ≡ true → page_sound (page_of s) ≡ true
  unfolding page_sound
  page_sound_lem e = and_both (tests && objects) (each (length (page_of s).threads) (place_sound (page_of s)))
      (and_both tests objects
      (unfold page_of in (ap₂ (λ x ts. all (clauses x s.count ts)) (unfold page_of in rows_found) (unfold page_of in timers_found) ∙ e))
      (unfold page_of in (tabulate_passes object_sound (length s.scheduler.rows.threads) (row_at s.scheduler) (λ t. object_formed (thread s.scheduler.rows t).stands))))
      (at_each (length (page_of s).threads) (place_sound (page_of s)) (λ t l. placed_test (page_of s) t (all_placed t l)))
    where
      tests : Bool
      tests = all (clauses (rows_of (page_of s)) (page_of s).count (map timer_of (page_of s).timers))

      objects : Bool
      objects = each_row object_sound (page_of s).threads

  -- the page of a sound state describes it
  pub state_back : described_by (page_of s) ≡ s
  state_back = λ i. unfold described_by set_at in record {
    scheduler = record { rows = rows_found i; sets = record { ready = set_found ready tt i; mutex = mutexes i; condition = conditions i } };
    count = count i;
    timers = timers_found i;
  }
    where
      count : (page_of s).count ≡ s.count
      count = unfold page_of in refl

      mutexes : tabulate (length (page_of s).mutexes) (λ m. set_of (page_of s) (for_mutex m)) ≡ s.scheduler.sets.mutex
      mutexes = unfold page_of in (tabulate_is empty_set (length s.scheduler.rows.mutexes) (λ m. set_of (page_of s) (for_mutex m)) s.scheduler.sets.mutex o.queued.mutexes
          (λ m l. unfold set_at in (set_found (for_mutex m) l)))

      conditions : tabulate (length (page_of s).ties) (λ c. set_of (page_of s) (on_condition c)) ≡ s.scheduler.sets.condition
      conditions = unfold page_of in (tabulate_is empty_set (length s.scheduler.rows.ties) (λ c. set_of (page_of s) (on_condition c)) s.scheduler.sets.condition o.queued.conditions
          (λ c l. unfold set_at in (set_found (on_condition c) l)))

-- the page of any state is formed
pub page_formed_lem : (s : State) → page_formed (page_of s) ≡ true
unfolding page_formed page_of
page_formed_lem s = and_both (each_row thread_formed (page_of s).threads) (each_row timer_formed (page_of s).timers)
    (tabulate_passes thread_formed (length s.scheduler.rows.threads) (row_at s.scheduler) (λ t. state_formed (thread s.scheduler.rows t).stands))
    (map_passes timer_formed timer_row_of s.timers timer_formed_lem)
