-- `arrive_place` lets one thread after the other arrive. The invariant: those below t have arrived. Assumes nothing.
use Rattle.place_tables.specs.Cells.{scheduler_in}
use Rattle.page_building.specs.Building.{arrived_below}
use Rattle.page_building.proofs.Turns.{Going}
use Rattle.page_building.proofs.arrive_place.Given as goal

abbrev pub invariant-loop-t : goal.invariant-loop-t
invariant-loop-t l = Going 32 (λ k. arrived_below l.rows l.place k (scheduler_in l.initial.cells)) l.n l.t-end l.t (scheduler_in l.cells)
