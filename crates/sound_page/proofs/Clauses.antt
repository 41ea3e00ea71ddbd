-- The clauses on a whole page: the limits, and, within them, the form of the states and the rest while stopped; each is the code's test of the tables.
-- Assumes nothing.
use Prim.Native.Nat.{ℕ, ◌<◌}
use mathlib.Core.Path.{◌≡◌, refl, ap, ap₂, ◌∙◌}
use mathlib.Core.Bool.{Bool, true, false, cond, not, ◌&&◌}
use mathlib.Core.List.{List, [], ◌∷◌, map}
use lib.ListN.{length, length-map}
use lib.Dec.{eqb, ltb, leb}
use borrow.Author.Tests.{ltb-false, leb-true, not-true, lt-ltb}
use Rattle.laws.proofs.Bools.{and_left, and_right, and-true, nor_left, nor_right}
use Rattle.laws.proofs.Lists.{length_tabulate}
use Rattle.units.specs.Units.{outside}
use Rattle.rules.specs.State.{Timer, stopped, one_shot, periodic, ready}
use Rattle.rules.specs.Effects.{goes}
use Rattle.rules.specs.Sound.{all, implies, limits, rest, none_goes}
use Rattle.rules.specs.Page.{rows_of, thread_of, timer_of, timer_state_of, thread_formed, timer_formed, each_row, page_formed}
use Rattle.page.specs.declared.Page.{Page}
use Rattle.page.specs.Says.{said}
use Rattle.sound_standing.specs.Standing.{timer_at}
use Rattle.sound_standing.proofs.Tests.{each_same}
use Rattle.sound_standing.proofs.Said.{rows, Small}
use Rattle.sound_standing.proofs.Said as page
use Rattle.sound_page.specs.WholePage.{limits_in, threads_formed_in, timers_formed_in, form_in, all_ready_in, nothing_owned_in, no_timer_runs_in, rest_in}

-- that no timer runs is a test of each row
goes_rows : (l : List Timer) → none_goes l ≡ each_row (λ x. not (goes x.state)) l
unfolding none_goes each_row
goes_rows [] = refl
goes_rows (x ∷ l) = ap (λ b. not (goes x.state) && b) (goes_rows l)

-- a timer does not run exactly if its state is 0
still_state : (n : ℕ) → not (goes (timer_state_of n)) ≡ eqb n 0
unfolding timer_state_of
still_state n = go (eqb n 0) (eqb n 1)
  where
    go : (a b : Bool) → not (goes (cond a stopped (cond b one_shot periodic))) ≡ a
    go true b = refl
    go false true = refl
    go false false = refl

module _ (p : Page) where
  -- the counts are within their limits
  abbrev pub limited : Bool
  limited = limits_in p.threads p.mutexes p.conditions p.timers

  -- limits
  pub limits_law : p.count < 4294967296 → all (limits (rows p) (said p).count (map timer_of (said p).timers)) ≡ limited
  unfolding rows_of said
  limits_law h =
      let a : length (map thread_of (said p).threads) ≡ p.threads = length-map (said p).threads thread_of ∙ length_tabulate p.threads _ in
      let b : length (said p).mutexes ≡ p.mutexes = length_tabulate p.mutexes _ in
      let c : length (said p).ties ≡ p.conditions = length_tabulate p.conditions _ in
      let d : length (map timer_of (said p).timers) ≡ p.timers = length-map (said p).timers timer_of ∙ length_tabulate p.timers _ in
      rw (a, b, c, d, lt-ltb p.count 4294967296 h, and-true)

  -- a page within its limits
  pub small : limited ≡ true → Small p
  small e =
      let a = not-true _ (and_left (not (outside 1 32 p.threads)) _ e) in
      let b = and_right (not (outside 1 32 p.threads)) _ e in
      let c = and_right (leb p.mutexes 16) _ b in
      record {
        some = ltb-false p.threads 1 (nor_left (ltb p.threads 1) (ltb 32 p.threads) a);
        threads = ltb-false 32 p.threads (nor_right (ltb p.threads 1) (ltb 32 p.threads) a);
        mutexes = leb-true p.mutexes 16 (and_left (leb p.mutexes 16) _ b);
        conditions = leb-true p.conditions 16 (and_left (leb p.conditions 16) _ c);
        timers = leb-true p.timers 32 (and_right (leb p.conditions 16) _ c);
      }

module _ (p : Page) (s : Small p) where
  -- form of the states
  pub form_law : page_formed (said p) ≡ form_in p.threadrows p.threads p.timerrows p.timers
  unfolding page_formed form_in threads_formed_in timers_formed_in
  form_law = ap₂ ◌&&◌ (page.over_rows_lem p s thread_formed) (page.over_timer_rows p s timer_formed)

  -- rest
  pub rest_law : implies (not (rows p).started) (all (rest (rows p) (said p).count (map timer_of (said p).timers)))
      ≡ rest_in p.started p.count p.threadrows p.threads p.mutexrows p.mutexes p.timerrows p.timers
  unfolding said rest_in all_ready_in nothing_owned_in no_timer_runs_in
  rest_law =
      let threads = page.over_threads p s _ _ (page.at_said p s ready) in
      let owners = page.over_mutexes p s _ _ (λ m h. ap (λ y. eqb y.owner 255) (page.mutex_said_lem p s m h)) in
      let timers =
      goes_rows (map timer_of (said p).timers)
      ∙ page.over_timers p s (λ y. not (goes y.state))
      ∙ each_same p.timers _ _ (λ i h. still_state (timer_at p.timerrows i).state) in
      ap₂ (λ b c. implies (not b) c) (page.started_said p s) (ap₂ ◌&&◌ threads (ap₂ ◌&&◌ owners (ap₂ ◌&&◌ timers (and-true (eqb p.count 0)))))
