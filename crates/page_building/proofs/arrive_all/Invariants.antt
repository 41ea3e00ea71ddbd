-- `arrive_all` takes one place after the other. The invariant: those of the places below this one have arrived. Assumes nothing.
use Prim.Native.Nat.{min}
use Rattle.place_tables.specs.Cells.{scheduler_in}
use Rattle.page_building.specs.Building.{arrived_places}
use Rattle.page_building.proofs.Turns.{Going}
use Rattle.page_building.proofs.arrive_all.Given as goal

abbrev pub invariant-loop-place : goal.invariant-loop-place
invariant-loop-place l = Going 32 (λ k. arrived_places l.rows (min l.n 32) k (scheduler_in l.initial.cells)) l.n l.place-end l.place (scheduler_in l.cells)
