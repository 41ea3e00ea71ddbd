-- `counted` meets its contract. The invariant: the counts so far are those of the threads below. Assumes nothing.
use mathlib.Core.Path.{◌≡◌}
use Rattle.rules.specs.Page.{how_many}
use Rattle.sound_threads.specs.Threads.{smaller_at, equal_at}
use Rattle.sound_threads.proofs.counted.Given as goal

abbrev pub invariant-loop-u : goal.invariant-loop-u
invariant-loop-u l = (l.smaller ≡ how_many l.u (smaller_at l.threadrows l.priorities l.row l.mine)) × (l.equal ≡ how_many l.u (equal_at l.threadrows l.priorities l.row l.mine))
