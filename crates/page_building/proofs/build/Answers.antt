-- `build` meets its contract: each part by its own call, and what they make of a sound page is the engine of its state. Assumes nothing.
use mathlib.Core.Path.{◌∙◌}
use Rattle.page_building.proofs.Means.{build_promise}
use Rattle.page_building.proofs.Parts.{put_together}
use Rattle.page_building.proofs.build.Goals as goal

pub returns : goal.returns
returns c =
    let page = c.args.page in
    let both = build_promise page _ (c.engine_of.ensures ∙ put_together page _ _ _ c.built_cells-cells.ensures c.built_clock-clock.ensures c.built_wheel-wheel.ensures) in
    record { always = both.0; means = both.1 }
