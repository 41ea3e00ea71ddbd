-- When the tables of an engine follow from a page, and when an engine follows from its own.
-- Assumes nothing.
use Rattle.std.specs.Prelude.{ℕ, ◌≡◌, ◌↔◌, Bool, true, ◌&&◌, List, Result, is_ok, IfOk, IfErr}
use Rattle.wheel.specs.Promise.{wheel_in}
use Rattle.rules.specs.Page.{page_formed, page_sound}
use Rattle.value_engine.specs.declared.Engine.{Engine}
use Rattle.place_tables.specs.Cells.{scheduler_in}
use Rattle.place_clock.specs.Clock.{clock_in, clock_of}
use Rattle.page.specs.declared.Page.{Page}
use Rattle.page.specs.Says.{said}
use Rattle.page_describing.specs.Describing.{describe_model}
use Rattle.page_building.specs.Building.{build_model}

-- the scheduler, the clock and the wheel in three arrays are those that are built from a page
abbrev pub Rebuilt : List ℕ → List ℕ → List ℕ → Page → Type 0
Rebuilt k t w p = (scheduler_in k ≡ (build_model p).scheduler) × (clock_in t ≡ clock_of (build_model p).timers (build_model p).count) × (wheel_in w ≡ (build_model p).wheel)

-- the test of the page that describes an engine
abbrev pub page_passes : Engine → Bool
page_passes x = page_formed (said (describe_model x)) && page_sound (said (describe_model x))

-- its page is formed and sound, and the engine is the one that is built from it
abbrev pub Follows : Engine → Type 0
Follows x = (page_passes x ≡ true) × (x ≡ build_model (describe_model x))

-- what is judged of an engine: its page, as it follows from that or, as an error, does not
pub record Judges (x : Engine) (r : Result Page Page) : Type 0 where
  pub sound : (is_ok r ≡ true) ↔ Follows x
  pub ok : IfOk r (λ page. page ≡ describe_model x)
  pub err : IfErr r (λ page. page ≡ describe_model x)
