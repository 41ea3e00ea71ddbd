-- `owned_by` is the count. The invariant: the count so far and that of the mutexes left give what the whole count gives, and the count so far is at most
-- the mutexes passed, so that it does not wrap. Assumes nothing.
use mathlib.Core.Path.{sym, ◌∙◌}
use native.Mathlib.Omega.{arith}
use Rattle.refusals.proofs.Owning.{owned_one_lem, count_on, count_done}
use Rattle.place_tables.specs.Cells.{scheduler_in}
use Rattle.place_effects.proofs.Rows.{sixteen, own_row}
use Rattle.place_effects.proofs.owned_by.Goals as goal

pub loop-i-init : goal.loop-i-init
loop-i-init c = (omega arith, omega arith)

pub overflow_add-owned : goal.overflow_add-owned
overflow_add-owned c =
    let one = rw (← c.owned_one-owned.ensures) at (owned_one_lem c.mutex_at-row.result c.args.t) in
    omega arith

pub loop-i-preserved : goal.loop-i-preserved
loop-i-preserved c =
    let k = c.args.cells.now in
    let i = c.loop-i.i in
    let one = rw (← c.owned_one-owned.ensures) at (owned_one_lem c.mutex_at-row.result c.args.t) in (
      omega arith,
      rw (c.owned_one-owned.ensures, c.mutex_at-row.ensures, own_row (scheduler_in k) i (omega arith))
          (sym (count_on (scheduler_in k).mutexes c.args.t c.loop-i.owned i (omega (arith, sixteen k))) ∙ c.loop-i.invariant.1),
    )

pub returns : goal.returns
returns c =
    let k = c.args.cells.now in
    sym (count_done (scheduler_in k).mutexes c.args.t c.loop-i.owned c.loop-i.i (omega (arith, sixteen k))) ∙ c.loop-i.invariant.1
