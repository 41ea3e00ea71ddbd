-- The page of the engine that describes a sound state is the page of that state, blank past the counts.
-- Assumes nothing.
use Prim.Native.Nat.{ℕ, ◌<◌}
use mathlib.Core.Path.{◌≡◌, refl, sym, ap, ◌∙◌, subst}
use mathlib.Core.Bool.{true, false, cond}
use mathlib.Core.List.{List, map, flatten}
use native.Mathlib.Omega.{arith}
use lib.ListN.{length, get_or, length-map, get_or-map}
use Rattle.laws.specs.Lists.{tabulate}
use Rattle.laws.specs.Counting.{at}
use Rattle.laws.proofs.Lists.{length_tabulate, get_d_tabulate, tabulate_below}
use Rattle.queue.specs.Linking.{read_model, level_model}
use Rattle.queue.specs.Stands.{ends_of, links_of, queues_of}
use Rattle.queue.proofs.Sets.{level_of}
use Rattle.queue.proofs.Canon.{read_in}
use Rattle.value_tables.specs.declared.Thread as tables
use Rattle.value_effects.specs.Effects.{thread_row_model}
use Rattle.units.specs.Units.{in_ticks}
use Rattle.wheel.specs.Promise.{wheel_of, left_in}
use Rattle.wheel.proofs.Promise.{left_hung}
use Rattle.rules.specs.Queues.{queue}
use Rattle.rules.specs.State.{Where, running, ready, for_mutex, on_condition, same, Timer, Rows, Scheduler, State, stopped_timer, thread, mutex, tied, timer, at as stands_at, priority, set_at}
use Rattle.rules.specs.Sound.{timers_sound, sound}
use Rattle.rules.specs.Page.{no_row, state_code, object_code, timer_code, ahead, place_at, row_at, timer_row_of, page_of}
use Rattle.rules_soundness.proofs.Rows.{Real}
use Rattle.rules_soundness.proofs.Facts.{Facts, Queued, Sound, low}
use Rattle.rules_soundness.proofs.Tested.{sound_facts}
use Rattle.rules_pages.proofs.Places.{stands_at_lem}
use Rattle.rules_pages.proofs.FromState.{row_found}
use Rattle.value_meaning.specs.Stands.{all_sets, thread_in, threads_of, scheduler_of}
use Rattle.value_meaning.proofs.Rows.{row_read}
use Rattle.value_meaning.proofs.Sides.{side, side_set}
use Rattle.value_meaning.proofs.Sets.{set_read}
use Rattle.value_meaning.proofs.Fresh.{has_set, wide, fresh}
use Rattle.value_engine.specs.Engines.{no_timer}
use Rattle.value_engine.specs.Stands.{timer_in, hung_of, engine_of}
use Rattle.value_engine.specs.declared.Engine.{Engine}
use Rattle.value_engine.proofs.Timers.{good_hung}
use Rattle.page.specs.declared.Page.{Page}
use Rattle.page.specs.Says.{thread_for, mutex_for, timer_for, stopped_timer_row, page_for}
use Rattle.page_describing.specs.Describing.{set_model, place_model, thread_model, timer_model, timer_at, describe_model}

-- ---- threads

module _ (h : Scheduler) (facts : Facts h.rows) (queued : Queued h.rows h.sets) where
  -- the row of a thread that stands at w
  abbrev row : ℕ → ℕ → Where → tables.Thread
  row base p w = record { base = base; priority = p; state = state_code w; object = object_code w }

  -- its set of queues
  set_is : (base p : ℕ) (w : Where) → Real h.rows w → set_model (scheduler_of h) (row base p w) ≡ queues_of (set_at h.sets w)
  unfolding set_model scheduler_of threads_of state_code object_code
  set_is base p running r = absurd r
  set_is base p ready r = unfold set_at in refl
  set_is base p (for_mutex m) r = set_read h.sets for_mutex m (omega (arith, facts.few_mutexes))
  set_is base p (on_condition c) r = set_read h.sets on_condition c (omega (arith, facts.few_ties))

  -- its queue, read along the links
  queue_is : (base p : ℕ) (w : Where) → Real h.rows w → p < 16
      → read_model (scheduler_of h).threads.links (level_model (set_model (scheduler_of h) (row base p w)) p) ≡ queue (set_at h.sets w) p
  queue_is base p w r l =
      ap (λ q. read_model (scheduler_of h).threads.links (level_model q p)) (set_is base p w r)
      ∙ ap (read_model (scheduler_of h).threads.links) (level_of (set_at h.sets w) p)
      ∙ (unfold scheduler_of threads_of in found)
    where
      found : read_model (links_of (flatten (all_sets h.sets))) (ends_of (at (set_at h.sets w) p)) ≡ at (set_at h.sets w) p
      found = subst (λ qs. read_model (links_of (flatten (all_sets h.sets))) (ends_of (at qs p)) ≡ at qs p) (side_set h.sets w (has_set queued w r))
          (read_in 16 (all_sets h.sets) (side h.sets w) p (wide queued) l (fresh queued facts.few))

  -- its place
  place_is : (base p t : ℕ) (w : Where) → (same running w ≡ false → Real h.rows w) → p < 16
      → place_model (scheduler_of h) (row base p w) t ≡ cond (same w running) 0 (ahead t (queue (set_at h.sets w) p))
  unfolding place_model state_code same
  place_is base p t running r l = refl
  place_is base p t ready r l = ap (ahead t) (unfold state_code in queue_is base p ready (r refl) l)
  place_is base p t (for_mutex m) r l = ap (ahead t) (unfold state_code in queue_is base p (for_mutex m) (r refl) l)
  place_is base p t (on_condition c) r l = ap (ahead t) (unfold state_code in queue_is base p (on_condition c) (r refl) l)

  -- its row in the page
  row_is : (t : ℕ) → t < 32 → thread_model (scheduler_of h) t ≡ thread_for (row_at h t)
  unfolding thread_model
  row_is t l =
      ap (λ (x : tables.Thread). record { base = x.base; state = x.state; object = x.object; place = place_model (scheduler_of h) x t }) read
      ∙ (λ i. record { base = (thread h.rows t).base; state = state_code w; object = object_code w; place = place i })
    where
      w : Where
      w = (thread h.rows t).stands

      read : thread_row_model (scheduler_of h) t ≡ thread_in h.rows t
      read = unfold thread_row_model scheduler_of threads_of in (row_read h.rows t l)

      place : place_model (scheduler_of h) (thread_in h.rows t) t ≡ place_at h t
      place = unfold stands_at in (place_is (thread h.rows t).base (priority h.rows t) t w (λ e. facts.real w t e (stands_at_lem h.rows t)) (low facts t))

-- ---- timers

-- the page's row of a timer, also outside the table
timer_is : (k : Rows) (count : ℕ) (ts : List Timer) → timers_sound k ts ≡ true → (i : ℕ) → i < 32
    → timer_at (tabulate 32 (timer_in ts)) (wheel_of (hung_of count ts)) i ≡ timer_for (get_or (map timer_row_of ts) i stopped_timer_row)
unfolding timer_model
timer_is k count ts e i l =
    (λ j. record { state = (r j).state; condition = (r j).condition; length = (r j).length; left = in_ticks (left j) })
    ∙ ap timer_for (sym (unfold timer_code in get_or-map timer_row_of ts i stopped_timer))
  where
    r : get_or (tabulate 32 (timer_in ts)) i no_timer ≡ timer_in ts i
    r = get_d_tabulate 32 (timer_in ts) i no_timer l

    left : left_in (wheel_of (hung_of count ts)) i ≡ (timer ts i).left
    left = left_hung (hung_of count ts) (good_hung k count ts e) i ∙ get_d_tabulate 32 (λ j. (timer ts j).left) i 0 l

-- ---- the page

-- the page of the engine that describes a sound state
pub describe_means : (s : State) → sound s ≡ true → describe_model (engine_of s) ≡ page_for (page_of s)
unfolding describe_model engine_of page_for page_of
describe_means s e = λ i. record {
  started = k.started;
  count = s.count;
  threads = sym (length_tabulate (length k.threads) (row_at h)) i;
  mutexes = length k.mutexes;
  conditions = length k.ties;
  timers = sym (length-map s.timers timer_row_of) i;
  threadrows = threads i;
  mutexrows = mutexes i;
  ties = tied_so i;
  timerrows = timers i;
}
  where
    h : Scheduler
    h = s.scheduler

    k : Rows
    k = s.scheduler.rows

    o : Sound s
    o = sound_facts s e

    mutexes : (scheduler_of s.scheduler).mutexes ≡ tabulate 16 (λ m. mutex_for (mutex s.scheduler.rows m))
    mutexes = unfold scheduler_of in refl

    tied_so : (scheduler_of s.scheduler).ties ≡ tabulate 16 (λ c. tied s.scheduler.rows c)
    tied_so = unfold scheduler_of in refl

    threads : tabulate 32 (thread_model (scheduler_of s.scheduler)) ≡ tabulate 32 (λ t. thread_for (get_or (tabulate (length s.scheduler.rows.threads) (row_at s.scheduler)) t no_row))
    threads = tabulate_below 32 (thread_model (scheduler_of h)) (λ t. thread_for (get_or (tabulate (length k.threads) (row_at h)) t no_row))
        (λ t l. row_is h o.facts o.queued t l ∙ ap thread_for (sym (row_found s t)))

    timers : tabulate 32 (timer_at (tabulate 32 (timer_in s.timers)) (wheel_of (hung_of s.count s.timers))) ≡ tabulate 32 (λ j. timer_for (get_or (map timer_row_of s.timers) j stopped_timer_row))
    timers = tabulate_below 32 (timer_at (tabulate 32 (timer_in s.timers)) (wheel_of (hung_of s.count s.timers))) (λ j. timer_for (get_or (map timer_row_of s.timers) j stopped_timer_row))
        (timer_is k s.count s.timers o.timers)

-- so every result that the code's model allows is that page, for every sound state that the engine describes
pub describe_promise : (x : Engine) (r : Page) → r ≡ describe_model x
    → (r ≡ describe_model x) × ((s : State) → sound s ≡ true → x ≡ engine_of s → r ≡ page_for (page_of s))
describe_promise x r e = (e, λ s z q. e ∙ ap describe_model q ∙ describe_means s z)
