-- `thread_rows` makes the rows in use. The invariant: the rows below t are filled. Assumes nothing.
use lib.ListN.{get_or}
use Rattle.page.specs.Says.{no_thread_row}
use Rattle.page_building.specs.Building.{blank_row, running_row}
use Rattle.page_building.proofs.Turns.{Filling}
use Rattle.page_building.proofs.thread_rows.Given as goal

abbrev pub invariant-loop-t : goal.invariant-loop-t
invariant-loop-t l = Filling 32 (λ i. running_row l.mutexes (get_or l.rows i no_thread_row) i) blank_row l.n l.t-end l.t l.made
