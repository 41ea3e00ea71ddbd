-- What a page whose tables are within their limits says, read from the tables as the code reads them.
-- Assumes nothing.
use Prim.Native.Nat.{ℕ, ◌%◌, ◌≤◌, ◌<◌, max}
use mathlib.Core.Path.{◌≡◌, refl, sym, ap, ap₂, ◌∙◌}
use mathlib.Core.Bool.{Bool, not}
use mathlib.Core.List.{List, map}
use native.Mathlib.Nat.{mod-eq_of_lt, lt_of_lt_of_le}
use native.Mathlib.Omega.{arith}
use lib.ListN.{length, get_or, get_or-eq_default}
use lib.Dec.{eqb}
use borrow.Author.Tests.{lt-ltb, le-ltb}
use Rattle.laws.specs.Lists.{tabulate}
use Rattle.laws.proofs.Bools.{cond_true, cond_false}
use Rattle.laws.proofs.Lists.{by_below, length_tabulate, get_d_tabulate, tabulate_below}
use Rattle.rules.specs.State as state
use Rattle.rules.specs.State.{Where, Rows, same, at, thread, mutex, tied, priority, highest_ceiling, owned, no_thread, no_mutex}
use Rattle.rules.specs.Sound.{each, anyone}
use Rattle.rules.specs.Page as rules
use Rattle.rules.specs.Page.{runner_from, rows_of, thread_of, timer_of, thread_row, no_row, each_row}
use Rattle.rules_pages.proofs.Rows.{thread_of_lem}
use Rattle.value_effects.specs.Effects.{ceiling_for}
use Rattle.page.specs.declared.Page.{Page}
use Rattle.page.specs.Says.{thread_said, mutex_said, timer_said, no_thread_row, no_mutex_row, no_timer_row, said}
use Rattle.page.proofs.Ranges.{rows_each_lem}
use Rattle.sound_standing.specs.Standing.{row_at, mutex_at, tie_at, timer_at, priority_at, stands_of, ceiling_in, priorities_in, owns_nothing_in, nobody_in, anyone_in, threads_in, top_in}
use Rattle.sound_standing.proofs.Tests.{each_same, map_tabulate, ceiling_highest, owned_none}

-- the rows of the state that a page describes
abbrev pub rows : Page → Rows
rows p = rows_of (said p)

-- the priorities that the code lists
abbrev pub priorities : Page → List ℕ
priorities p = priorities_in p.threadrows p.mutexrows p.mutexes

-- the running thread that the code finds
abbrev pub runner : Page → ℕ
runner p = runner_from 0 (threads_in p.threadrows p.threads)

-- its priority
abbrev pub top : Page → ℕ
top p = top_in p.threadrows p.threads p.mutexrows p.mutexes (runner p)

-- the tables are within their limits, and there is a thread
pub record Small (p : Page) : Type 0 where
  pub some : 0 < p.threads
  pub threads : p.threads ≤ 32
  pub mutexes : p.mutexes ≤ 16
  pub conditions : p.conditions ≤ 16
  pub timers : p.timers ≤ 32

-- a number below a table's count is read as it is
within : (size n i : ℕ) → n ≤ size → i < n → i ≡ i % size
within size n i h k = sym (mod-eq_of_lt (lt_of_lt_of_le k h))

module _ (p : Page) (s : Small p) where
  -- ---- the tables

  -- the rows of the threads
  rows_said : (said p).threads ≡ tabulate p.threads (λ t. thread_said (row_at p.threadrows t))
  unfolding said
  rows_said = tabulate_below p.threads _ _ (λ i k. ap (λ u. thread_said (get_or p.threadrows u no_thread_row)) (within 32 p.threads i s.threads k))

  -- the threads
  threads_said : (rows p).threads ≡ threads_in p.threadrows p.threads
  unfolding rows_of threads_in
  threads_said = ap (map thread_of) rows_said ∙ map_tabulate thread_of p.threads (λ t. thread_said (row_at p.threadrows t))

  -- the mutexes
  mutexes_said : (rows p).mutexes ≡ tabulate p.mutexes (λ m. mutex_said (mutex_at p.mutexrows m))
  unfolding rows_of said
  mutexes_said = tabulate_below p.mutexes _ _ (λ i k. ap (λ u. mutex_said (get_or p.mutexrows u no_mutex_row)) (within 16 p.mutexes i s.mutexes k))

  -- the ties
  ties_said : (rows p).ties ≡ tabulate p.conditions (tie_at p.ties)
  unfolding rows_of said
  ties_said = tabulate_below p.conditions _ _ (λ i k. ap (λ u. get_or p.ties u 0) (within 16 p.conditions i s.conditions k))

  -- the rows of the timers
  timers_said : (said p).timers ≡ tabulate p.timers (λ i. timer_said (timer_at p.timerrows i))
  unfolding said
  timers_said = tabulate_below p.timers _ _ (λ i k. ap (λ u. timer_said (get_or p.timerrows u no_timer_row)) (within 32 p.timers i s.timers k))

  -- whether started
  pub started_said : (rows p).started ≡ p.started
  unfolding rows_of said
  started_said = refl

  -- ---- their lengths

  -- as many threads as the page counts
  pub length_threads : length (rows p).threads ≡ p.threads
  unfolding threads_in
  length_threads = ap length threads_said ∙ length_tabulate p.threads _

  -- as many rows of them
  pub length_rows : length (said p).threads ≡ p.threads
  length_rows = ap length rows_said ∙ length_tabulate p.threads _

  -- as many mutexes
  pub length_mutexes : length (rows p).mutexes ≡ p.mutexes
  length_mutexes = ap length mutexes_said ∙ length_tabulate p.mutexes _

  -- as many ties
  pub length_ties : length (rows p).ties ≡ p.conditions
  length_ties = ap length ties_said ∙ length_tabulate p.conditions _

  -- ---- their rows

  -- the row of a thread
  pub row_said : (t : ℕ) → t < p.threads → thread_row (said p) t ≡ thread_said (row_at p.threadrows t)
  row_said t h = ap (λ l. get_or l t no_row) rows_said ∙ get_d_tabulate p.threads (λ u. thread_said (row_at p.threadrows u)) t no_row h

  -- a thread
  pub thread_said_lem : (t : ℕ) → t < p.threads → thread (rows p) t ≡ thread_of (thread_said (row_at p.threadrows t))
  thread_said_lem t h = thread_of_lem (said p) t ∙ ap thread_of (row_said t h)

  -- where it stands
  pub at_said : (w : Where) (t : ℕ) → t < p.threads → at (rows p) w t ≡ same (stands_of (row_at p.threadrows t)) w
  unfolding at
  at_said w t h = ap (λ x. same x.stands w) (thread_said_lem t h)

  -- its base
  pub base_said : (t : ℕ) → t < p.threads → (thread (rows p) t).base ≡ (row_at p.threadrows t).base
  base_said t h = ap (λ x. x.base) (thread_said_lem t h)

  -- the base outside the table
  no_base : (t : ℕ) → p.threads ≤ t → (thread (rows p) t).base ≡ 0
  no_base t h =
      let k : length (rows p).threads ≤ t = omega (arith, length_threads) in
      ap (λ (x : state.Thread). x.base) (get_or-eq_default (rows p).threads no_thread k)

  -- a mutex
  pub mutex_said_lem : (m : ℕ) → m < p.mutexes → mutex (rows p) m ≡ mutex_said (mutex_at p.mutexrows m)
  mutex_said_lem m h = ap (λ l. get_or l m no_mutex) mutexes_said ∙ get_d_tabulate p.mutexes _ m no_mutex h

  -- none outside the table
  pub no_mutex_lem : (m : ℕ) → p.mutexes ≤ m → mutex (rows p) m ≡ no_mutex
  no_mutex_lem m h =
      let k : length (rows p).mutexes ≤ m = omega (arith, length_mutexes) in
      get_or-eq_default (rows p).mutexes no_mutex k

  -- the mutex that a condition variable is tied to
  pub tied_said : (c : ℕ) → c < p.conditions → tied (rows p) c ≡ tie_at p.ties c
  tied_said c h = ap (λ l. get_or l c 255) ties_said ∙ get_d_tabulate p.conditions (tie_at p.ties) c 255 h

  -- ---- tests over a table

  -- over the threads
  pub over_threads : (f g : ℕ → Bool) → ((t : ℕ) → t < p.threads → f t ≡ g t) → each (length (rows p).threads) f ≡ each p.threads g
  over_threads f g h = ap (λ n. each n f) length_threads ∙ each_same p.threads f g h

  -- over the mutexes
  pub over_mutexes : (f g : ℕ → Bool) → ((m : ℕ) → m < p.mutexes → f m ≡ g m) → each (length (rows p).mutexes) f ≡ each p.mutexes g
  over_mutexes f g h = ap (λ n. each n f) length_mutexes ∙ each_same p.mutexes f g h

  -- over the ties
  pub over_ties : (f g : ℕ → Bool) → ((c : ℕ) → c < p.conditions → f c ≡ g c) → each (length (rows p).ties) f ≡ each p.conditions g
  over_ties f g h = ap (λ n. each n f) length_ties ∙ each_same p.conditions f g h

  -- over the rows of the threads
  pub over_rows_lem : (f : rules.ThreadRow → Bool) → each_row f (said p).threads ≡ each p.threads (λ t. f (thread_said (row_at p.threadrows t)))
  over_rows_lem f = ap (each_row f) rows_said ∙ rows_each_lem f p.threads _

  -- over the rows of the timers
  pub over_timer_rows : (f : rules.TimerRow → Bool) → each_row f (said p).timers ≡ each p.timers (λ i. f (timer_said (timer_at p.timerrows i)))
  over_timer_rows f = ap (each_row f) timers_said ∙ rows_each_lem f p.timers _

  -- over the timers
  pub over_timers : (f : state.Timer → Bool) → each_row f (map timer_of (said p).timers) ≡ each p.timers (λ i. f (timer_of (timer_said (timer_at p.timerrows i))))
  over_timers f = ap (λ l. each_row f (map timer_of l)) timers_said ∙ ap (each_row f) (map_tabulate timer_of p.timers _) ∙ rows_each_lem f p.timers _

  -- whether anyone stands at w
  pub anyone_said : (w : Where) → anyone (rows p) w ≡ anyone_in p.threadrows p.threads w
  unfolding nobody_in
  anyone_said w = ap not (over_threads _ _ (λ t h. ap not (at_said w t h)))

  -- ---- priorities, who owns nothing, and the running thread

  -- the largest ceiling that a thread owns
  highest_said : (t : ℕ) → highest_ceiling (rows p).mutexes t ≡ ceiling_in p.mutexrows p.mutexes t
  unfolding ceiling_in ceiling_for
  highest_said t = ap (λ l. highest_ceiling l t) mutexes_said ∙ ceiling_highest p.mutexes _ t

  -- a thread's priority is the one that the code lists
  pub priority_said : (t : ℕ) → t < p.threads → priority (rows p) t ≡ priority_at (priorities p) t
  unfolding priority priorities_in
  priority_said t h =
      ap₂ max (base_said t h) (highest_said t)
      ∙ ap (λ u. max (row_at p.threadrows u).base (ceiling_in p.mutexrows p.mutexes u)) (within 32 p.threads t s.threads h)
      ∙ sym (get_d_tabulate 32 (λ u. max (row_at p.threadrows u).base (ceiling_in p.mutexrows p.mutexes u)) (t % 32) 0 (omega arith))

  -- whether a thread owns nothing
  pub free_said : (t : ℕ) → eqb (owned (rows p).mutexes t) 0 ≡ owns_nothing_in p.mutexrows p.mutexes t
  unfolding owns_nothing_in
  free_said t = owned_none (rows p).mutexes t ∙ ap (each_row (λ x. not (eqb x.owner t))) mutexes_said ∙ rows_each_lem _ p.mutexes _

  -- the running thread is the one that the code finds
  pub runner_said : (rows p).runner ≡ runner p
  unfolding rows_of
  runner_said = ap (runner_from 0) threads_said

  -- its priority too
  pub top_said : priority (rows p) (rows p).runner ≡ top p
  unfolding priority top_in
  top_said = ap (priority (rows p)) runner_said ∙ by_below (runner p) p.threads
      (λ h. ap₂ max (base_said (runner p) h ∙ sym (cond_true _ _ _ (lt-ltb (runner p) p.threads h))) (highest_said (runner p)))
      (λ h. ap₂ max (no_base (runner p) h ∙ sym (cond_false _ _ _ (le-ltb (runner p) p.threads h))) (highest_said (runner p)))
