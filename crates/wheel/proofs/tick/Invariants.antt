-- `tick` meets its contract. The loop's invariant: what the timers still to visit make of the words is what all of them make.
-- The measure is the word of those still to visit. Assumes nothing.
use Rattle.laws.specs.Bits.{members}
use Rattle.wheel.specs.Inside.{midst, visited}
use Rattle.wheel.proofs.Walk.{Going}
use Rattle.wheel.proofs.tick.Given as goal

abbrev pub invariant-loop-rest : goal.invariant-loop-rest
invariant-loop-rest l =
    Going (visited (members 32 l.initial.rest) (midst l.initial.wheel 0 0)) l.wheel l.rest l.due l.visits

abbrev pub decreases-loop-rest : goal.decreases-loop-rest
decreases-loop-rest l = l.rest
