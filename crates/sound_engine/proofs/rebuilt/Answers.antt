-- `rebuilt` meets its contract: each pair of arrays by its own test. Assumes nothing.
use Rattle.std.proofs.Common.{rules}
use Rattle.sound_engine.proofs.Rebuilding.{tables_decide}
use Rattle.sound_engine.proofs.rebuilt.Goals as goal

pub returns-then-timed : goal.returns-then-timed
returns-then-timed c =
    let a = c.args in
    tables_decide _ _ _ _ _ _ a.page c.built_cells-scheduler.ensures c.built_clock-timers.ensures c.built_wheel-spokes.ensures
    _ _ _ c.same_cells-scheduled.ensures c.same_clocks-timed.ensures c.same_words-hung.ensures _ (search rules)

pub returns-else-timed : goal.returns-else-timed
returns-else-timed c =
    let a = c.args in
    tables_decide _ _ _ _ _ _ a.page c.built_cells-scheduler.ensures c.built_clock-timers.ensures c.built_wheel-spokes.ensures
    _ _ _ c.same_cells-scheduled.ensures c.same_clocks-timed.ensures c.same_words-hung.ensures _ (search rules)
