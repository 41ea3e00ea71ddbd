-- `built_cells` meets its contract: each call by its own. Assumes nothing.
use mathlib.Core.Path.{ap, ◌∙◌}
use Prim.Native.Nat.{min}
use Rattle.page_building.specs.Building.{arrived_places, build_model}
use Rattle.page_building.proofs.built_cells.Goals as goal

pub returns : goal.returns
unfolding build_model
returns c =
    let page = c.args.page in
    c.arrive_all.ensures ∙ ap (arrived_places page.threadrows (min page.threads 32) (min page.threads 32)) (c.packed-cells.ensures ∙ c.blank_scheduler-blank.ensures)
