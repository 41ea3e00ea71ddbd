-- On the scheduler that describes a stage of a sound page, the code's arrivals give the one that describes the next stage, and after all of them
-- it describes the page's state.
-- Assumes nothing.
use Prim.Native.Nat.{ℕ, zero, suc, ◌<◌, ◌≤◌}
use mathlib.Core.Path.{◌≡◌, refl, sym, ap, ap₂, ◌∙◌, subst}
use mathlib.Core.Bool.{Bool, true, false, cond, ◌&&◌}
use mathlib.Core.List.{List, append-nil}
use native.Mathlib.Omega.{arith}
use lib.ListN.{length, get_or, length-map}
use lib.Dec.{eqb, ltb}
use borrow.Author.Tests.{le-ltb}
use Rattle.laws.specs.Lists.{tabulate}
use Rattle.laws.proofs.Bools.{by_cases, and_left, and_false, and-true, cond_same, cond_true}
use Rattle.laws.proofs.Lists.{by_equal, by_below, length_tabulate}
use Rattle.rules.specs.Queues.{empty_set}
use Rattle.rules.specs.State.{Where, running, ready, for_mutex, on_condition, same, Thread, Rows, Scheduler, no_thread, thread, at, priority, with_threads, stand, set_at, arrive}
use Rattle.rules.specs.Page as rules
use Rattle.rules.specs.Page.{Page, no_row, thread_row, thread_of, rows_of, in_queue, queue_of, set_of, described_by, together, object_sound, thread_formed, timer_formed, each_row, page_formed, page_sound, state_code, object_code}
use Rattle.rules_soundness.proofs.Fits.{fits_empty}
use Rattle.rules_soundness.proofs.Rows.{Real, not_running}
use Rattle.rules_soundness.proofs.Facts.{Facts, Queued, Sound, low}
use Rattle.rules_soundness.proofs.Moves.{queued_arrive}
use Rattle.rules_soundness.proofs.Tested.{sound_facts}
use Rattle.rules_pages.proofs.Counts.{many_below}
use Rattle.rules_pages.proofs.Rows.{row_passes, tabulate_is, thread_of_lem, state_found, object_found}
use Rattle.rules_pages.proofs.Places.{stands_at_lem, at_stands, same_running, place_in}
use Rattle.rules_pages.proofs.FromPage.{placed, objects_sound_lem, described_sound}
use Rattle.value_effects.specs.declared.Scheduler as scheduled
use Rattle.value_meaning.specs.Stands.{scheduler_of}
use Rattle.value_meaning.proofs.Threads.{stand_same}
use Rattle.value_meaning.proofs.Calls.{ready_stands, wait_for_stands, wait_on_stands}
use Rattle.page.specs.declared.ThreadRow.{ThreadRow}
use Rattle.page.specs.Says.{thread_said, no_thread_row}
use Rattle.page_building.specs.Building.{arrived_where, arrived_one, arrived_below, arrived_places}
use Rattle.page_building.proofs.Lines.{came, came_none, came_others, came_itself, came_not_yet, came_aside, came_level, came_below, line, line_none, line_next, line_level, line_last}
use Rattle.page_building.proofs.Stages.{sets_by, sets_same, row_by, stage, stage_same, length_stage, thread_stage, thread_past, base_stage, priority_stage, set_empty, stage_arrives}

module _ (p : Page) where
  -- the rows of the state that the page describes
  abbrev k : Rows
  k = rows_of p

  -- how many threads there are
  abbrev n : ℕ
  n = length p.threads

  -- as many threads as rows
  pub many : length (rows_of p).threads ≡ length p.threads
  unfolding rows_of
  many = length-map p.threads thread_of

  -- who has come
  abbrev here : ℕ → ℕ → ℕ → Bool
  here i t = came (place_in p) i t

  -- and the queues
  abbrev lines : ℕ → ℕ → Where → ℕ → List ℕ
  lines i t w q = line n (place_in p) (in_queue k w q) i t

  -- those of the places below i, and the threads below t of place i, have arrived
  unfoldable pub stage_at : ℕ → ℕ → Scheduler
  stage_at i t = stage k (here i t) (lines i t)

  -- a thread of another place
  skipped : (i t : ℕ) → eqb (place_in p t) i ≡ false → stage_at i t ≡ stage_at i (suc t)
  unfolding stage_at
  skipped i t e = stage_same k (here i t) (here i (suc t)) (lines i t) (lines i (suc t))
      (λ u l. ap (λ b. cond b (thread k u).stands running) (came_aside (place_in p) i t u e))
      (λ v z q. sym (line_next n (place_in p) (in_queue k v q) i t ∙ rw (e, and_false (in_queue k v q t)) (append-nil (line n (place_in p) (in_queue k v q) i t))))

  -- a thread that runs
  stays : (i t : ℕ) → (thread k t).stands ≡ running → stage_at i t ≡ stage_at i (suc t)
  unfolding stage_at
  stays i t e = stage_same k (here i t) (here i (suc t)) (lines i t) (lines i (suc t))
      (λ u l. by_equal u t
      (λ d. rw (d, e) (cond_same (came (place_in p) i t t) running ∙ sym (cond_same (came (place_in p) i (suc t) t) running)))
      (λ d. ap (λ b. cond b (thread k u).stands running) (came_others (place_in p) i t u d)))
      (λ v z q. sym (line_next n (place_in p) (in_queue k v q) i t ∙ rw (away v z) (append-nil (line n (place_in p) (in_queue k v q) i t))))
    where
      away : (v : Where) → same running v ≡ false → at k v t ≡ false
      away v z = unfold at in (rw e z)

  -- the next place
  next_place : (i : ℕ) → stage_at i n ≡ stage_at (suc i) 0
  unfolding stage_at
  next_place i = stage_same k (here i n) (here (suc i) 0) (lines i n) (lines (suc i) 0)
      (λ u l. ap (λ b. cond b (thread k u).stands running) (came_level (place_in p) n i u (rw many at l)))
      (λ v z q. line_level n (place_in p) (in_queue k v q) i)

  -- ---- nobody has come

  -- all stand nowhere
  pub first_stands : (u : ℕ) → (thread (stage_at 0 0).rows u).stands ≡ running
  unfolding stage_at
  first_stands u = by_below u (length k.threads)
      (λ l. ap (λ (x : Thread). x.stands) (thread_stage k (here 0 0) (lines 0 0) u l) ∙ rw (came_none (place_in p) u))
      (λ l. ap (λ (x : Thread). x.stands) (thread_past k (here 0 0) (lines 0 0) u l))

  -- with the page's base and priority
  pub first_base : (u : ℕ) → (thread (stage_at 0 0).rows u).base ≡ (thread (rows_of p) u).base
  unfolding stage_at
  first_base u = base_stage k (here 0 0) (lines 0 0) u

  -- and with the page's priority
  pub first_priority : (u : ℕ) → priority (stage_at 0 0).rows u ≡ priority (rows_of p) u
  unfolding stage_at
  first_priority u = priority_stage k (here 0 0) (lines 0 0) u

  -- and all sets are empty
  pub first_sets : (w : Where) → set_at (stage_at 0 0).sets w ≡ empty_set
  unfolding stage_at stage
  first_sets w = set_empty (length k.mutexes) (length k.ties) (lines 0 0) w (λ v q. line_none n (place_in p) (in_queue k v q))

  -- so each set holds exactly those who stand at its place
  pub first_queued : Queued (stage_at 0 0).rows (stage_at 0 0).sets
  first_queued = record {
    mutexes = unfold stage_at stage sets_by in (length_tabulate (length k.mutexes) (λ i. tabulate 16 (λ q. line n (place_in p) (in_queue k (for_mutex i) q) 0 0)));
    conditions = unfold stage_at stage sets_by in (length_tabulate (length k.ties) (λ i. tabulate 16 (λ q. line n (place_in p) (in_queue k (on_condition i) q) 0 0)));
    fits = λ w r. let z : Real (rows_of p) w = unfold stage_at stage in r in
        rw (first_sets w) (fits_empty (λ u. unfold at in (rw (first_stands u) (not_running (length k.mutexes) (length k.ties) w z))));
  }

  -- ---- a sound page

  module _ (formed : page_formed p ≡ true) (e : page_sound p ≡ true) where
    -- the state that it describes is sound
    pub sound : Sound (described_by p)
    sound = sound_facts (described_by p) (described_sound p e)

    -- and so are its rows
    pub facts : Facts (rows_of p)
    facts = unfold described_by in sound.facts

    -- a state is 1 to 4
    row_formed : (t : ℕ) → t < length p.threads → thread_formed (thread_row p t) ≡ true
    row_formed t l = row_passes thread_formed p.threads t no_row (and_left (each_row thread_formed p.threads) (each_row timer_formed p.timers) (unfold page_formed in formed)) l

    -- and its object 255 where it waits for none
    row_object : (t : ℕ) → t < length p.threads → object_sound (thread_row p t) ≡ true
    row_object t l = row_passes object_sound p.threads t no_row (objects_sound_lem p e) l

    -- the numbers of a row are those of where its thread stands: the state
    state_is : (t : ℕ) → t < length p.threads → state_code (thread (rows_of p) t).stands ≡ (thread_row p t).state
    state_is t l = ap (λ (x : Thread). state_code x.stands) (thread_of_lem p t) ∙ state_found (thread_row p t) (row_formed t l)

    -- and the object
    object_is : (t : ℕ) → t < length p.threads → object_code (thread (rows_of p) t).stands ≡ (thread_row p t).object
    object_is t l = ap (λ (x : Thread). object_code x.stands) (thread_of_lem p t) ∙ object_found (thread_row p t) (row_formed t l) (row_object t l)

    -- who does not run has a place below the number of threads
    place_low : (t : ℕ) → t < length p.threads → at (rows_of p) running t ≡ false → place_in p t < length p.threads
    place_low t l r = subst (λ x. x < length p.threads) ((placed p e t l).counted r)
        (many_below (length p.threads) t (λ u. together (rows_of p) t u && ltb (place_in p u) (place_in p t)) l
        (rw (le-ltb (place_in p t) (place_in p t) (omega arith)) (and_false (together (rows_of p) t t))))

    -- ---- after all places it is the page's scheduler

    -- each thread stands where the page says
    last_row : (u : ℕ) → u < length k.threads → row_by k (here n 0) u ≡ thread k u
    last_row u l = ap (λ w. record { base = (thread k u).base; stands = w }) (by_cases (at k running u)
        (λ r. let z : (thread k u).stands ≡ running = at_stands k running u r in rw z (cond_same (came (place_in p) n 0 u) running))
        (λ r. cond_true (came (place_in p) n 0 u) (thread k u).stands running (came_below (place_in p) n u (place_low u (rw many at l) r))))

    -- and each queue is whole
    pub last_stage : stage_at (length p.threads) 0 ≡ (described_by p).scheduler
    unfolding stage_at stage described_by
    last_stage = λ i. record { rows = with_threads k (threads i); sets = sets i }
      where
        threads : tabulate (length k.threads) (row_by k (here n 0)) ≡ k.threads
        threads = tabulate_is no_thread (length k.threads) (row_by k (here n 0)) k.threads refl last_row

        whole : (w : Where) (q : ℕ) → line n (place_in p) (in_queue k w q) n 0 ≡ queue_of p w q
        whole w q = line_last n (place_in p) (in_queue k w q) n ∙ (unfold queue_of in refl)

        sets : sets_by (length k.mutexes) (length k.ties) (lines n 0) ≡ (described_by p).scheduler.sets
        sets = sets_same (length k.mutexes) (length k.ties) (lines n 0) (queue_of p) (λ v z q. whole v q)
            ∙ (unfold sets_by described_by set_of rows_of in refl)

    -- ---- one thread arrives

    module _ (i t : ℕ) (there : t < length p.threads) (queued : Queued (stage_at i t).rows (stage_at i t).sets) where
      -- the stage before
      abbrev h : Scheduler
      h = stage_at i t

      -- the thread exists
      exists : t < length (rows_of p).threads
      exists = rw many there

      -- its priority is low
      small : priority (stage_at i t).rows t < 16
      unfolding stage_at
      small = subst (λ x. x < 16) (sym (priority_stage k (here i t) (lines i t) t)) (low facts t)

      -- it exists in the stage too
      inside : t < length (stage_at i t).rows.threads
      unfolding stage_at
      inside = rw (length_stage k (here i t) (lines i t)) exists

      -- which has no more than 32
      few : length (stage_at i t).rows.threads ≤ 32
      unfolding stage_at
      few = rw (length_stage k (here i t) (lines i t)) facts.few

      module _ (mine : eqb (place_in p t) i ≡ true) where
        -- it has not come yet
        nowhere : (thread (stage_at i t).rows t).stands ≡ running
        unfolding stage_at
        nowhere = ap (λ (x : Thread). x.stands) (thread_stage k (here i t) (lines i t) t exists) ∙ rw (came_not_yet (place_in p) i t mine)

        -- so that it is in no queue
        aside : Queued (stand (stage_at i t).rows t running) (stage_at i t).sets
        aside = rw (stand_same (stage_at i t).rows t nowhere) queued

        -- the code's arrival at a place
        comes : (w : Where) → Real (rows_of p) w → arrived_where (scheduler_of (stage_at i t)) (state_code w) (object_code w) t ≡ scheduler_of (arrive (stage_at i t) t w)
        unfolding arrived_where state_code object_code
        comes running r = absurd r
        comes ready r = ready_stands h t inside few aside small
        comes (for_mutex m) r = wait_for_stands h t inside few aside small m (unfold stage_at stage in r) (unfold stage_at stage in facts.few_mutexes)
        comes (on_condition c) r = wait_on_stands h t inside few aside small c (unfold stage_at stage in r) (unfold stage_at stage in facts.few_ties)

        module _ (real : Real (rows_of p) (thread (rows_of p) t).stands) where
          -- and the stage that follows
          follows : arrive (stage_at i t) t (thread (rows_of p) t).stands ≡ stage_at i (suc t)
          unfolding stage_at
          follows = stage_arrives k (here i t) (lines i t) (here i (suc t)) (lines i (suc t))
              t exists (low facts t) real (came_itself (place_in p) i t mine) (λ u d. came_others (place_in p) i t u d)
              (λ v q. line_next n (place_in p) (in_queue k v q) i t ∙ rw (mine, and-true (in_queue k v q t)))

          -- whose sets hold exactly those who stand there
          still : Queued (stage_at i (suc t)).rows (stage_at i (suc t)).sets
          still = subst (λ (g : Scheduler). Queued g.rows g.sets) follows
              (unfold arrive in (queued_arrive queued t (thread (rows_of p) t).stands inside nowhere (unfold stage_at stage in real) small))

-- ---- the code's scheduler, stage by stage

-- the scheduler describes a stage whose queues hold who stands there
pub record Staged (p : Page) (y : scheduled.Scheduler) (i t : ℕ) : Type 0 where
  pub is : y ≡ scheduler_of (stage_at p i t)
  pub queued : Queued (stage_at p i t).rows (stage_at p i t).sets

-- one stage is another
staged_as : (p : Page) (y : scheduled.Scheduler) (i t j u : ℕ) → stage_at p i t ≡ stage_at p j u → Staged p y i t → Staged p y j u
staged_as p y i t j u e g = record { is = g.is ∙ ap scheduler_of e; queued = subst (λ (h : Scheduler). Queued h.rows h.sets) e g.queued }

module _ (p : Page) (formed : page_formed p ≡ true) (e : page_sound p ≡ true) where
  -- thread t of this place arrives where it stands
  at_place : (y : scheduled.Scheduler) (i t : ℕ) → t < length p.threads → Staged p y i t → eqb (place_in p t) i ≡ true
      → Staged p (arrived_where y (state_code (thread (rows_of p) t).stands) (object_code (thread (rows_of p) t).stands) t) i (suc t)
  at_place y i t l g mine = by_cases (at (rows_of p) running t)
      (λ r. let z = at_stands (rows_of p) running t r in
      subst (λ w. Staged p (arrived_where y (state_code w) (object_code w) t) i (suc t)) (sym z) (unfold arrived_where state_code object_code in (staged_as p y i t i (suc t) (stays p i t z) g)))
      (λ r. let real = (facts p formed e).real (thread (rows_of p) t).stands t (sym (same_running (thread (rows_of p) t).stands) ∙ (unfold at in r)) (stands_at_lem (rows_of p) t) in
      record {
        is = ap (λ x. arrived_where x (state_code (thread (rows_of p) t).stands) (object_code (thread (rows_of p) t).stands) t) g.is
            ∙ comes p formed e i t l g.queued mine (thread (rows_of p) t).stands real ∙ ap scheduler_of (follows p formed e i t l g.queued mine real);
        queued = still p formed e i t l g.queued mine real;
      })

  -- thread t's row is taken
  one_arrives : (y : scheduled.Scheduler) (row : ThreadRow) (i t : ℕ) → t < length p.threads → thread_said row ≡ thread_row p t → Staged p y i t → Staged p (arrived_one y row i t) i (suc t)
  unfolding arrived_one
  one_arrives y row i t l d g = by_cases (eqb row.place i)
      (λ z. rw z (subst (λ x. Staged p x i (suc t)) (ap₂ (λ a b. arrived_where y a b t) state object) (at_place y i t l g (sym (ap (λ a. eqb a i) place) ∙ z))))
      (λ z. rw z (staged_as p y i t i (suc t) (skipped p i t (sym (ap (λ a. eqb a i) place) ∙ z)) g))
    where
      place : row.place ≡ place_in p t
      place = ap (λ (x : rules.ThreadRow). x.place) d

      state : state_code (thread (rows_of p) t).stands ≡ row.state
      state = state_is p formed e t l ∙ sym (ap (λ (x : rules.ThreadRow). x.state) d)

      object : object_code (thread (rows_of p) t).stands ≡ row.object
      object = object_is p formed e t l ∙ sym (ap (λ (x : rules.ThreadRow). x.object) d)

  module _ (rows : List ThreadRow) (says : (t : ℕ) → t < length p.threads → thread_said (get_or rows t no_thread_row) ≡ thread_row p t) where
    -- the threads of one place
    below_arrive : (y : scheduled.Scheduler) (i t : ℕ) → t ≤ length p.threads → Staged p y i 0 → Staged p (arrived_below rows i t y) i t
    unfolding arrived_below
    below_arrive y i zero l g = g
    below_arrive y i (suc t) l g = one_arrives (arrived_below rows i t y) (get_or rows t no_thread_row) i t l (says t l) (below_arrive y i t (omega arith) g)

    -- place after place
    places_arrive : (y : scheduled.Scheduler) (i : ℕ) → Staged p y 0 0 → Staged p (arrived_places rows (length p.threads) i y) i 0
    unfolding arrived_places
    places_arrive y zero g = g
    places_arrive y (suc i) g = staged_as p (arrived_places rows (length p.threads) (suc i) y) i (length p.threads) (suc i) 0 (next_place p i)
        (below_arrive (arrived_places rows (length p.threads) i y) i (length p.threads) (omega arith) (places_arrive y i g))

    -- all have arrived
    pub all_arrive : (y : scheduled.Scheduler) → y ≡ scheduler_of (stage_at p 0 0) → arrived_places rows (length p.threads) (length p.threads) y ≡ scheduler_of (described_by p).scheduler
    all_arrive y d = (places_arrive y (length p.threads) (record { is = d; queued = first_queued p })).is ∙ ap scheduler_of (last_stage p formed e)
