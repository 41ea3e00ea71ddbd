-- `packed` meets its contract: each table by its own. Assumes nothing.
use lib.ListN.{replicate}
use Rattle.place_tables.specs.Cells.{scheduler_in}
use Rattle.place_packing.proofs.Putting.{all_put}
use Rattle.place_packing.proofs.packed.Goals as goal

pub returns : goal.returns
returns c =
    all_put _ (scheduler_in (replicate 1281 0)) _ _ _ _ _ _ _ _ c.put_rows.ensures c.put_links.ensures c.put_levels.ensures c.put_mutexes.ensures c.put_sets.ensures c.put_ties.ensures c.put_sets-2.ensures c.put_running.ensures
