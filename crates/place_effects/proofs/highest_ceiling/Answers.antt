-- `highest_ceiling` is the search. The invariant: the best so far and the ceilings left give what the whole search gives. Assumes nothing.
use mathlib.Core.Path.{sym, ◌∙◌}
use native.Mathlib.Omega.{arith}
use Rattle.value_effects.proofs.Searching.{search_on, search_done}
use Rattle.place_tables.specs.Cells.{scheduler_in}
use Rattle.place_effects.proofs.Rows.{sixteen, own_row}
use Rattle.place_effects.proofs.highest_ceiling.Goals as goal

pub loop-i-preserved : goal.loop-i-preserved
loop-i-preserved c =
    let k = c.args.cells.now in
    let i = c.loop-i.i in
    rw (c.max-best.ensures, c.ceiling_for.ensures, c.mutex_at-row.ensures, own_row (scheduler_in k) i (omega arith))
    (sym (search_on (scheduler_in k).mutexes c.args.t c.loop-i.best i (omega (arith, sixteen k))) ∙ c.loop-i.invariant)

pub returns : goal.returns
returns c =
    let k = c.args.cells.now in
    sym (search_done (scheduler_in k).mutexes c.args.t c.loop-i.best c.loop-i.i (omega (arith, sixteen k))) ∙ c.loop-i.invariant
