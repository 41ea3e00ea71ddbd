-- `hang` starts one timer after the other. The invariant: those below id hang. Assumes nothing.
use Rattle.wheel.specs.Promise.{wheel_in}
use Rattle.page_building.specs.Building.{hung_below}
use Rattle.page_building.proofs.Turns.{Going}
use Rattle.page_building.proofs.hang.Given as goal

abbrev pub invariant-loop-id : goal.invariant-loop-id
invariant-loop-id l = Going 32 (λ k. hung_below l.rows k (wheel_in l.initial.wheel)) l.n l.id-end l.id (wheel_in l.wheel)
