-- `ahead_of` counts those ahead. The invariant: the count and those ahead on the rest of the walk make the whole. Assumes nothing.
use Rattle.queue.specs.Linking.{walk}
use Rattle.rules.specs.Page.{ahead}
use Rattle.page_describing.proofs.Ahead.{next_in, Counting}
use Rattle.page_describing.proofs.ahead_of.Given as goal

abbrev pub invariant-loop-count : goal.invariant-loop-count
invariant-loop-count l = Counting (next_in l.cells) l.t (ahead l.t (walk (next_in l.cells) 32 l.initial.here)) l.count l.here
