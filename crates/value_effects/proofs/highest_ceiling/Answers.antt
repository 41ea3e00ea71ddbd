-- `highest_ceiling` is the search. The invariant: the best so far and the ceilings left give what the whole search gives. Assumes nothing.
use mathlib.Core.Path.{◌≡◌, sym, ◌∙◌}
use native.Mathlib.Omega.{arith}
use lib.ListN.{length}
use Rattle.queue.proofs.Cases.{cases}
use Rattle.value_effects.proofs.Searching.{search_on, search_done}
use Rattle.value_effects.proofs.highest_ceiling.Goals as goal

pub loop-row-init : goal.loop-row-init
loop-row-init c = omega arith

pub loop-row-preserved : goal.loop-row-preserved
loop-row-preserved c =
    let l = c.args.mutexes in
    let n : length l ≡ 16 = search cases in
    rw (c.larger-best.ensures, c.ceiling_for.ensures) (sym (search_on l c.args.t c.loop-row.best c.loop-row.row-index (omega arith)) ∙ c.loop-row.invariant)

pub returns : goal.returns
returns c =
    let l = c.args.mutexes in
    let n : length l ≡ 16 = search cases in
    sym (search_done l c.args.t c.loop-row.best c.loop-row.row-index (omega arith)) ∙ c.loop-row.invariant
