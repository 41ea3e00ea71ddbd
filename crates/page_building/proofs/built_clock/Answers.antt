-- `built_clock` meets its contract: each call by its own. Assumes nothing.
use mathlib.Core.Path.{ap, ◌∙◌}
use Rattle.place_clock.specs.Clock.{clock_of}
use Rattle.page_building.specs.Building.{build_model}
use Rattle.page_building.proofs.built_clock.Goals as goal

pub returns : goal.returns
unfolding build_model
returns c =
    let page = c.args.page in
    c.clock_of.ensures ∙ ap (λ rows. clock_of rows page.count) c.timer_rows-timers.ensures
