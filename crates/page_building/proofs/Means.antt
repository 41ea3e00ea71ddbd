-- The engine that the code builds of a sound page is the engine of the state that the page describes.
-- Assumes nothing.
use Prim.Native.Nat.{min}
use mathlib.Core.Path.{◌≡◌, sym, ap, ◌∙◌}
use mathlib.Core.Bool.{true}
use Rattle.rules.specs.Page.{rows_of, described_by, page_formed, page_sound}
use Rattle.value_meaning.specs.Stands.{scheduler_of}
use Rattle.value_engine.specs.declared.Engine.{Engine}
use Rattle.value_engine.specs.Stands.{engine_of}
use Rattle.page.specs.declared.Page.{Page}
use Rattle.page.specs.Says.{said}
use Rattle.page_building.specs.Building.{arrived_places, blank_scheduler, build_model}
use Rattle.page_building.proofs.Arrivals.{all_arrive}
use Rattle.page_building.proofs.Blank.{all_fit, threads_many, mutexes_many, ties_many, threads_few, rows_many, thread_said_lem, blank_stands}
use Rattle.page_building.proofs.Timers.{timers_many, timers_said, wheel_said}

module _ (x : Page) (formed : page_formed (said x) ≡ true) (e : page_sound (said x) ≡ true) where
  -- all threads arrive
  arrived : arrived_places x.threadrows (min x.threads 32) (min x.threads 32) (blank_scheduler x) ≡ scheduler_of (described_by (said x)).scheduler
  arrived = ap (λ n. arrived_places x.threadrows n n (blank_scheduler x)) (all_fit x.threads 32 (threads_few x formed e) ∙ sym (rows_many x))
      ∙ all_arrive (said x) formed e x.threadrows (λ t l. sym (thread_said_lem x t (rw (rows_many x) at l))) (blank_scheduler x) (blank_stands x formed e)

  -- and the rest is copied
  pub build_means : build_model x ≡ engine_of (described_by (said x))
  unfolding build_model engine_of described_by rows_of said
  build_means = λ i. record {
    scheduler = arrived i;
    timers = timers_said x formed e i;
    wheel = wheel_said x formed e i;
    started = x.started;
    threads = sym (threads_many x) i;
    mutexes = sym (mutexes_many x) i;
    conditions = sym (ties_many x) i;
    timercount = sym (timers_many x) i;
    count = x.count;
  }

-- both parts of the code's promise
pub build_promise : (x : Page) (r : Engine) → r ≡ build_model x → (r ≡ build_model x) × (page_formed (said x) ≡ true → page_sound (said x) ≡ true → r ≡ engine_of (described_by (said x)))
build_promise x r d = (d, λ formed e. d ∙ build_means x formed e)
