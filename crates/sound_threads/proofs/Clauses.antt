-- The clauses on the threads of a page within its limits: each is the code's test of the tables.
-- Assumes nothing.
use Prim.Native.Nat.{ℕ, ◌<◌}
use mathlib.Core.Path.{◌≡◌, refl, ap, ap₂, ◌∙◌}
use mathlib.Core.Bool.{Bool, cond, not, ◌&&◌}
use lib.ListN.{length}
use lib.Dec.{eqb, ltb, leb}
use Rattle.rules.specs.State.{Where, running, ready, for_mutex, on_condition, same, waits, at, priority}
use Rattle.rules.specs.Sound.{each, implies, exists, bases_sound, idle_sound, runner_sound, none_above, objects_sound}
use Rattle.rules.specs.Page.{how_many, together, thread_row, object_sound, place_sound, each_row}
use Rattle.rules_pages.proofs.Counts.{many_same}
use Rattle.page.specs.declared.ThreadRow.{ThreadRow}
use Rattle.page.specs.declared.Page.{Page}
use Rattle.page.specs.Says.{said}
use Rattle.sound_standing.specs.Standing.{row_at, priority_at, stands_of}
use Rattle.sound_standing.proofs.Tests.{each_same}
use Rattle.sound_standing.proofs.Said.{rows, priorities, runner, top, Small}
use Rattle.sound_standing.proofs.Said as page
use Rattle.sound_threads.specs.Threads.{base_fits, bases_in, idle_in, runs_fits, runs_in, runner_in, not_above, none_above_in, exists_in, objects_exist_in, object_codes_in, beside_in, smaller_at, equal_at, counted_in, place_fits, places_in}

module _ (p : Page) (s : Small p) where
  -- the row of a thread
  abbrev row : ℕ → ThreadRow
  row = row_at p.threadrows

  -- its priority
  abbrev mine : ℕ → ℕ
  mine = priority_at (priorities p)

  -- bases
  pub bases_law : bases_sound (rows p) ≡ bases_in p.threadrows p.threads
  unfolding bases_in
  bases_law = page.over_threads p s _ _ (λ t h. ap (base_fits t) (page.base_said p s t h))

  -- thread 0
  pub idle_law : idle_sound (rows p) ≡ idle_in p.threadrows p.mutexrows p.mutexes
  unfolding idle_in
  idle_law = ap₂ (λ y b. not (waits y.stands) && b) (page.thread_said_lem p s 0 s.some) (page.free_said p s 0)

  -- the runner
  pub runner_law : runner_sound (rows p) ≡ runner_in p.started (runner p) p.threadrows p.threads
  unfolding runner_in runs_in runs_fits
  runner_law =
      let b = (rows p).started in
      ap₂ ◌&&◌
      (page.over_threads p s _ _ (λ t h.
      ap₂ (λ a r. eqb (cond a 1 0) (cond (b && eqb t r) 1 0)) (page.at_said p s running t h) (page.runner_said p s)
      ∙ ap (λ a. eqb (cond (same (stands_of (row t)) running) 1 0) (cond (a && eqb t (runner p)) 1 0)) (page.started_said p s)))
      (ap₂ (λ r n. cond b (ltb r n) (eqb r 255)) (page.runner_said p s) (page.length_threads p s)
      ∙ ap (λ a. cond a (ltb (runner p) p.threads) (eqb (runner p) 255)) (page.started_said p s))

  -- none ready above it
  pub none_above_law : none_above (rows p) ≡ none_above_in p.started (top p) p.threadrows p.threads (priorities p)
  unfolding none_above_in not_above
  none_above_law = page.over_threads p s _ _ (λ t h.
      ap₂ (λ a b. implies ((rows p).started && a) (leb b (priority (rows p) (rows p).runner))) (page.at_said p s ready t h) (page.priority_said p s t h)
      ∙ ap₂ (λ b c. implies (b && same (stands_of (row t)) ready) (leb (mine t) c)) (page.started_said p s) (page.top_said p s))

  -- an object exists
  exists_said : (w : Where) → exists (rows p) w ≡ exists_in p.mutexes p.conditions w
  unfolding exists_in
  exists_said running = refl
  exists_said ready = refl
  exists_said (for_mutex m) = ap (ltb m) (page.length_mutexes p s)
  exists_said (on_condition c) = ap (ltb c) (page.length_ties p s)

  -- objects exist
  pub objects_exist_law : objects_sound (rows p) ≡ objects_exist_in p.threadrows p.threads p.mutexes p.conditions
  unfolding objects_exist_in
  objects_exist_law = page.over_threads p s _ _ (λ t h. ap (λ y. exists (rows p) y.stands) (page.thread_said_lem p s t h) ∙ exists_said (stands_of (row t)))

  -- objects
  pub object_codes_law : each_row object_sound (said p).threads ≡ object_codes_in p.threadrows p.threads
  unfolding object_codes_in
  object_codes_law = page.over_rows_lem p s object_sound

  -- ---- places

  module _ (t : ℕ) (h : t < p.threads) where
    -- a thread's place
    abbrev place : ℕ → ℕ
    place u = (thread_row (said p) u).place

    -- it is the one of its row
    place_said : (u : ℕ) → u < p.threads → place u ≡ (row u).place
    place_said u b = ap (λ y. y.place) (page.row_said p s u b)

    -- who is in its queue
    together_said : (u : ℕ) → u < p.threads → together (rows p) t u ≡ beside_in (row t) (mine t) (row u) (mine u)
    unfolding beside_in
    together_said u b =
        ap₂ ◌&&◌
        (ap (λ y. at (rows p) y.stands u) (page.thread_said_lem p s t h) ∙ page.at_said p s (stands_of (row t)) u b)
        (ap₂ eqb (page.priority_said p s u b) (page.priority_said p s t h))

    -- how many of its queue pass a test of their place against its own
    abbrev many : (ℕ → ℕ → Bool) → ℕ
    many test = how_many (length (said p).threads) (λ u. together (rows p) t u && test (place u) (place t))

    -- they are those that the code counts
    many_said : (test : ℕ → ℕ → Bool) → many test ≡ how_many p.threads (λ u. beside_in (row t) (mine t) (row u) (mine u) && test (row u).place (row t).place)
    many_said test =
        ap (λ n. how_many n (λ u. together (rows p) t u && test (place u) (place t))) (page.length_rows p s)
        ∙ many_same p.threads _ _ (λ u b. ap₂ ◌&&◌ (together_said u b) (ap₂ test (place_said u b) (place_said t h)))

    -- its place is sound
    place_sound_lem : place_sound (said p) t ≡ place_fits p.threadrows p.threads (priorities p) (row t) (mine t)
    unfolding place_fits counted_in smaller_at equal_at
    place_sound_lem =
        ap₂ (λ a m. cond a (eqb m 0) (eqb (many ltb) m && eqb (many eqb) 1)) (page.at_said p s running t h) (place_said t h)
        ∙ ap₂ (λ a b. cond (same (stands_of (row t)) running) (eqb (row t).place 0) (eqb a (row t).place && eqb b 1)) (many_said ltb) (many_said eqb)

  -- places
  pub places_law : each (length (said p).threads) (place_sound (said p)) ≡ places_in p.threadrows p.threads (priorities p)
  unfolding places_in
  places_law = ap (λ n. each n (place_sound (said p))) (page.length_rows p s) ∙ each_same p.threads _ _ place_sound_lem
