-- The code's tests of a page, in the definition's order after the limits, decide whether what it says is formed and sound.
-- Assumes nothing.
use Prim.Native.Nat.{ℕ, zero, suc, ◌<◌}
use mathlib.Core.Path.{◌≡◌, refl, sym, ap, ap₂, ◌∙◌}
use mathlib.Core.Bool.{Bool, true, false, ◌&&◌}
use mathlib.Core.List.{List, [], ◌∷◌, ◌++◌, map}
use lib.ListN.{length, get_or, drop}
use borrow.Author.Tests.{le-ltb}
use Rattle.laws.proofs.Bools.{and-true, and_false}
use Rattle.laws.proofs.Lists.{by_below}
use Rattle.rules.specs.Sound.{all, each, limits, clauses}
use Rattle.rules.specs.Page.{timer_of, object_sound, place_sound, each_row, page_formed, page_sound}
use Rattle.page.specs.declared.Page.{Page}
use Rattle.page.specs.Says.{said}
use Rattle.sound_standing.proofs.Said.{rows, priorities, runner, top}
use Rattle.sound_threads.specs.Threads.{bases_in, idle_in, runner_in, none_above_in, objects_exist_in, object_codes_in, places_in}
use Rattle.sound_threads.proofs.Clauses.{bases_law, idle_law, runner_law, none_above_law, objects_exist_law, object_codes_law, places_law}
use Rattle.sound_objects.specs.Objects.{ceilings_in, mutexes_in, conditions_in, timers_in}
use Rattle.sound_objects.proofs.Clauses.{ceilings_law, mutexes_law, conditions_law, timers_law}
use Rattle.sound_page.specs.WholePage.{form_in, rest_in}
use Rattle.sound_page.proofs.Clauses.{limited, limits_law, small, form_law, rest_law}

-- ---- lists of tests

-- two more tests at the end
at_end_lem : (l : List Bool) (a b : Bool) → (all l && a && b) ≡ all (l ++ (a ∷ b ∷ []))
at_end_lem [] a b = sym (ap (λ c. a && c) (and-true b))
at_end_lem (true ∷ l) a b = at_end_lem l a b
at_end_lem (false ∷ l) a b = refl

-- the limits, which stand first in the clauses, before the form
limits_first : (form : Bool) (l : List Bool) (a b c : Bool) → (get_or l 0 true ≡ true → (form && all (drop 1 l ++ (a ∷ b ∷ []))) ≡ c) → (form && (all l && a && b)) ≡ (get_or l 0 true && c)
limits_first form [] a b c h = ap (λ d. form && d) (at_end_lem [] a b) ∙ h refl
limits_first form (true ∷ l) a b c h = ap (λ d. form && d) (at_end_lem l a b) ∙ h refl
limits_first form (false ∷ l) a b c h = and_false form

-- where one test of a list does not hold, not all do
one_fails : (l : List Bool) (i : ℕ) → get_or l i true ≡ false → all l ≡ false
one_fails [] i e = e
one_fails (b ∷ l) zero e = rw e
one_fails (b ∷ l) (suc i) e = ap (λ c. b && c) (one_fails l i e) ∙ and_false b

-- ---- the tests of a page

module _ (p : Page) where
  -- those of the code within the limits, in its order
  abbrev asked : List Bool
  asked =
      form_in p.threadrows p.threads p.timerrows p.timers
      ∷ bases_in p.threadrows p.threads
      ∷ ceilings_in p.mutexrows p.mutexes
      ∷ idle_in p.threadrows p.mutexrows p.mutexes
      ∷ runner_in p.started (runner p) p.threadrows p.threads
      ∷ none_above_in p.started (top p) p.threadrows p.threads (priorities p)
      ∷ objects_exist_in p.threadrows p.threads p.mutexes p.conditions
      ∷ mutexes_in p.mutexrows p.mutexes p.threadrows p.threads (priorities p)
      ∷ conditions_in p.ties p.conditions p.threadrows p.threads p.mutexrows p.mutexes
      ∷ timers_in p.timerrows p.timers p.conditions
      ∷ rest_in p.started p.count p.threadrows p.threads p.mutexrows p.mutexes p.timerrows p.timers
      ∷ object_codes_in p.threadrows p.threads
      ∷ places_in p.threadrows p.threads (priorities p) ∷ []

  -- and the limits first
  abbrev pub tests : List Bool
  tests = limited p ∷ asked

  -- all of them hold exactly if the page is formed and sound
  pub sound_law : p.count < 4294967296 → (page_formed (said p) && page_sound (said p)) ≡ all tests
  unfolding page_sound
  sound_law h =
      limits_first (page_formed (said p)) (clauses (rows p) (said p).count (map timer_of (said p).timers)) (each_row object_sound (said p).threads) (each (length (said p).threads) (place_sound (said p)))
      (all asked)
      (λ e.
      let s = small p (sym (limits_law p h) ∙ e) in
      ap₂ ◌&&◌ (form_law p s)
      (ap₂ ◌&&◌ (bases_law p s)
      (ap₂ ◌&&◌ (ceilings_law p s)
      (ap₂ ◌&&◌ (idle_law p s)
      (ap₂ ◌&&◌ (runner_law p s)
      (ap₂ ◌&&◌ (none_above_law p s)
      (ap₂ ◌&&◌ (objects_exist_law p s)
      (ap₂ ◌&&◌ (mutexes_law p s)
      (ap₂ ◌&&◌ (conditions_law p s)
      (ap₂ ◌&&◌ (timers_law p s)
      (ap₂ ◌&&◌ (rest_law p s)
      (ap₂ ◌&&◌ (object_codes_law p s)
      (ap (λ b. b && true) (places_law p s))))))))))))))
      ∙ ap (λ b. b && all asked) (limits_law p h)

  -- a page of which one test does not hold is not; one whose count does not fit its limit is not either
  pub refused : (i : ℕ) → get_or tests i true ≡ false → false ≡ (page_formed (said p) && page_sound (said p))
  unfolding page_sound said
  refused i e = sym (by_below p.count 4294967296
      (λ h. sound_law h ∙ one_fails tests i e)
      (λ h.
      let past = one_fails (limits (rows p) p.count (map timer_of (said p).timers)) 4 (le-ltb p.count 4294967296 h) in
      rw (one_fails (clauses (rows p) p.count (map timer_of (said p).timers)) 0 past) (and_false (page_formed (said p)))))
