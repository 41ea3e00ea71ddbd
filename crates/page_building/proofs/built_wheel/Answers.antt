-- `built_wheel` meets its contract: each call by its own. Assumes nothing.
use mathlib.Core.Path.{ap, ◌∙◌}
use Prim.Native.Nat.{min}
use Rattle.page_building.specs.Building.{hung_below, build_model}
use Rattle.page_building.proofs.built_wheel.Goals as goal

pub returns : goal.returns
unfolding build_model
returns c =
    let page = c.args.page in
    c.hang.ensures ∙ ap (hung_below page.timerrows (min page.timers 32)) c.empty_words-wheel.ensures
