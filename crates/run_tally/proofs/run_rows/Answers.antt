-- `run_rows` meets its contract, by `apart` and `summed`. Assumes nothing.
use Rattle.std.proofs.Common.{◌∙◌}
use Rattle.place_step.proofs.Apart.{apart}
use Rattle.run_tally.proofs.Walking.{summed}
use Rattle.run_tally.proofs.run_rows.Goals as goal

pub returns : goal.returns
returns c =
    let begun = apart _ _ _ _ _ c.cells_of-cells.ensures c.clock_words-clock.ensures c.wheel_words-wheel.ensures c.counts_of-counts.ensures ∙ c.boot-engine.ensures in
    summed _ _ _ _ _ _ _ begun c.tally_rows-ready.ensures c.tally_repeated-ended.ensures
