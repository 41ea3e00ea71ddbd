-- `runner` is the search. The invariant: the search from t on gives what the whole search gives. Assumes nothing.
use Rattle.page_building.proofs.Turns.{Searching}
use Rattle.page_building.proofs.runner.Given as goal

abbrev pub invariant-loop-t : goal.invariant-loop-t
invariant-loop-t l = Searching l.rows l.n l.t-end l.t
