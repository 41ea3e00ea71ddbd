-- `finish` meets its contract, by `finished`. Assumes nothing.
use mathlib.Core.Path.{ap, ◌∙◌}
use Rattle.place_tables.specs.Cells.{scheduler_in}
use Rattle.place_calls.specs.Standing.{engine_in, stepped_in}
use Rattle.place_calls.proofs.Judging.{finished}
use Rattle.place_calls.proofs.finish.Goals as goal
use Rattle.place_calls.proofs.finish.Goals.{then-counts, else-counts}

pub returns : goal.returns
returns c =
    λ timing.
    ap (λ t. stepped_in c.if-counts.cells timing c.args.counts (record { number = 0; given = c.args.given; running = t })) c.running_at-running.ensures
    ∙ finished (engine_in c.args.cells.now timing c.args.counts) (scheduler_in c.if-counts.cells) c.args.given c.args.tick
    (elim c.if-counts.branch [ then-counts w ↦ rw w.if-counts.true (ap scheduler_in w.cells-is ∙ w.choose_next.ensures) | else-counts w ↦ rw w.if-counts.false (ap scheduler_in w.cells-is) ])
