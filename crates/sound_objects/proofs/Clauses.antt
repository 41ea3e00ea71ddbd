-- The clauses on the mutexes, the condition variables and the timers of a page within its limits: each is the code's test of the tables.
-- Assumes nothing.
use Prim.Native.Nat.{ℕ, ◌<◌}
use mathlib.Core.Path.{◌≡◌, refl, sym, ap, ap₂, ◌∙◌}
use mathlib.Core.Bool.{Bool, cond, not, ◌&&◌}
use mathlib.Core.List.{List, [], ◌∷◌, map}
use lib.ListN.{length}
use lib.Dec.{eqb, ltb, leb}
use borrow.Author.Tests.{lt-ltb, le-ltb}
use Rattle.laws.proofs.Bools.{cond_true, cond_false}
use Rattle.laws.proofs.Lists.{by_below}
use Rattle.units.specs.Units.{outside}
use Rattle.rules.specs.State as state
use Rattle.rules.specs.State.{Timer, Rows, for_mutex, on_condition, same, at, thread, mutex, tied, owned}
use Rattle.rules.specs.Sound.{each, implies, anyone, owner_sound, waiter_sound, timer_sound, ceilings_sound, mutexes_sound, conditions_sound, timers_sound}
use Rattle.rules.specs.Page.{timer_of, each_row}
use Rattle.value_effects.specs.declared.Mutex.{Mutex}
use Rattle.page.specs.declared.ThreadRow.{ThreadRow}
use Rattle.page.specs.declared.Page.{Page}
use Rattle.page.specs.Says.{said}
use Rattle.sound_standing.specs.Standing.{row_at, mutex_at, tie_at, timer_at, priority_at, stands_of, owns_nothing_in, anyone_in}
use Rattle.sound_standing.proofs.Tests.{each_same}
use Rattle.sound_standing.proofs.Said.{rows, priorities, Small}
use Rattle.sound_standing.proofs.Said as page
use Rattle.sound_objects.specs.Objects.{ceilings_in, mutex_waiter_fits, mutex_waiters_in, owner_fits, mutexes_in, ceiling_of, condition_waiter_fits, condition_waiters_in, tie_fits, condition_fits, conditions_in, timer_fits, timers_in}

-- the tests of the timers are tests of each row
timers_rows : (k : Rows) (l : List Timer) → timers_sound k l ≡ each_row (timer_sound k) l
unfolding timers_sound each_row
timers_rows k [] = refl
timers_rows k (x ∷ l) = ap (λ b. timer_sound k x && b) (timers_rows k l)

module _ (p : Page) (s : Small p) where
  -- the row of a thread
  abbrev row : ℕ → ThreadRow
  row = row_at p.threadrows

  -- of a mutex
  abbrev mutex_row : ℕ → Mutex
  mutex_row = mutex_at p.mutexrows

  -- ceilings
  pub ceilings_law : ceilings_sound (rows p) ≡ ceilings_in p.mutexrows p.mutexes
  unfolding ceilings_in
  ceilings_law = page.over_mutexes p s _ _ (λ m h. ap (λ y. not (outside 1 15 y.ceiling)) (page.mutex_said_lem p s m h))

  -- ---- mutexes

  -- the base of an owner that exists
  owner_base : (o c : ℕ) (b : Bool) → (ltb o p.threads && b && leb (thread (rows p) o).base c) ≡ (ltb o p.threads && b && leb (row o).base c)
  owner_base o c b = by_below o p.threads
      (λ h. ap (λ n. ltb o p.threads && b && leb n c) (page.base_said p s o h))
      (λ h. rw (le-ltb o p.threads h))

  module _ (m : ℕ) (h : m < p.mutexes) where
    -- the owner
    owner_said : owner_sound (rows p) m ≡ owner_fits p.threadrows p.threads m (mutex_row m)
    unfolding owner_fits
    owner_said =
        let y : Mutex = mutex_row m in
        ap (λ (z : state.Mutex). cond (eqb z.owner 255) (eqb z.count 0 && not (anyone (rows p) (for_mutex m)))
        (ltb z.owner (length (rows p).threads) && not (outside 1 255 z.count) && leb (thread (rows p) z.owner).base z.ceiling)) (page.mutex_said_lem p s m h)
        ∙ ap₂ (λ a n. cond (eqb y.owner 255) (eqb y.count 0 && not a)
        (ltb y.owner n && not (outside 1 255 y.count) && leb (thread (rows p) y.owner).base y.ceiling)) (page.anyone_said p s (for_mutex m)) (page.length_threads p s)
        ∙ ap (cond (eqb y.owner 255) (eqb y.count 0 && not (anyone_in p.threadrows p.threads (for_mutex m))))
        (owner_base y.owner y.ceiling (not (outside 1 255 y.count)))

    -- the waiters
    waiters_said : each (length (rows p).threads) (waiter_sound (rows p) m) ≡ mutex_waiters_in p.threadrows p.threads (priorities p) m (mutex_row m)
    unfolding mutex_waiters_in mutex_waiter_fits
    waiters_said = page.over_threads p s _ _ (λ t b.
        ap₂ (λ a q. implies a (not (eqb t (mutex (rows p) m).owner) && leb q (mutex (rows p) m).ceiling)) (page.at_said p s (for_mutex m) t b) (page.priority_said p s t b)
        ∙ ap (λ y. implies (same (stands_of (row t)) (for_mutex m)) (not (eqb t y.owner) && leb (priority_at (priorities p) t) y.ceiling)) (page.mutex_said_lem p s m h))

  -- mutexes
  pub mutexes_law : mutexes_sound (rows p) ≡ mutexes_in p.mutexrows p.mutexes p.threadrows p.threads (priorities p)
  unfolding mutexes_in
  mutexes_law = page.over_mutexes p s _ _ (λ m h. ap₂ ◌&&◌ (owner_said m h) (waiters_said m h))

  -- ---- condition variables

  -- the ceiling of a mutex, also outside the table
  ceiling_said : (m : ℕ) → (mutex (rows p) m).ceiling ≡ ceiling_of p.mutexrows p.mutexes m
  ceiling_said m = by_below m p.mutexes
      (λ h. ap (λ y. y.ceiling) (page.mutex_said_lem p s m h) ∙ sym (cond_true _ _ _ (lt-ltb m p.mutexes h)))
      (λ h. ap (λ (y : state.Mutex). y.ceiling) (page.no_mutex_lem p s m h) ∙ sym (cond_false _ _ _ (le-ltb m p.mutexes h)))

  module _ (c : ℕ) (h : c < p.conditions) where
    -- the tie
    tie_said : cond (anyone (rows p) (on_condition c)) (ltb (tied (rows p) c) (length (rows p).mutexes)) (eqb (tied (rows p) c) 255)
        ≡ tie_fits (anyone_in p.threadrows p.threads (on_condition c)) p.mutexes (tie_at p.ties c)
    tie_said =
        ap₂ (λ a n. cond a (ltb (tied (rows p) c) n) (eqb (tied (rows p) c) 255)) (page.anyone_said p s (on_condition c)) (page.length_mutexes p s)
        ∙ ap (tie_fits (anyone_in p.threadrows p.threads (on_condition c)) p.mutexes) (page.tied_said p s c h)

    -- those that wait on it
    waiting_said : each (length (rows p).threads) (λ t. implies (at (rows p) (on_condition c) t) (eqb (owned (rows p).mutexes t) 0 && leb (thread (rows p) t).base (mutex (rows p) (tied (rows p) c)).ceiling))
        ≡ condition_waiters_in p.threadrows p.threads p.mutexrows p.mutexes c (ceiling_of p.mutexrows p.mutexes (tie_at p.ties c))
    unfolding condition_waiters_in condition_waiter_fits
    waiting_said = page.over_threads p s _ _ (λ t b.
        ap₂ (λ a f. implies a (f && leb (thread (rows p) t).base (mutex (rows p) (tied (rows p) c)).ceiling)) (page.at_said p s (on_condition c) t b) (page.free_said p s t)
        ∙ ap₂ (λ n e. implies (same (stands_of (row t)) (on_condition c)) (owns_nothing_in p.mutexrows p.mutexes t && leb n e))
        (page.base_said p s t b)
        (ceiling_said (tied (rows p) c) ∙ ap (ceiling_of p.mutexrows p.mutexes) (page.tied_said p s c h)))

  -- condition variables
  pub conditions_law : conditions_sound (rows p) ≡ conditions_in p.ties p.conditions p.threadrows p.threads p.mutexrows p.mutexes
  unfolding conditions_in condition_fits
  conditions_law = page.over_ties p s _ _ (λ c h. ap₂ ◌&&◌ (tie_said c h) (waiting_said c h))

  -- timers
  pub timers_law : timers_sound (rows p) (map timer_of (said p).timers) ≡ timers_in p.timerrows p.timers p.conditions
  unfolding timers_in timer_fits
  timers_law =
      timers_rows (rows p) (map timer_of (said p).timers)
      ∙ page.over_timers p s (timer_sound (rows p))
      ∙ each_same p.timers _ _ (λ i h. ap (λ n. timer_fits n (timer_at p.timerrows i)) (page.length_ties p s))
