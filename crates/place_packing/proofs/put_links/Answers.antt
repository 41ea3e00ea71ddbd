-- `put_links` replaces the table. The invariant: the rows below t are the new ones. Assumes nothing.
use mathlib.Core.Path.{refl}
use Rattle.queue.proofs.Cases.{cases}
use Rattle.place_tables.specs.Cells.{scheduler_in}
use Rattle.place_tables.specs.Changes.{with_link}
use Rattle.laws.proofs.Copying.{copy_none, copy_next, copy_all}
use Rattle.place_packing.proofs.Putting.{link_put, links_long}
use Rattle.place_packing.proofs.put_links.Goals as goal

pub loop-t-init : goal.loop-t-init
loop-t-init c = copy_none _ _ _ _ refl

pub loop-t-preserved : goal.loop-t-preserved
loop-t-preserved c =
    let l = c.loop-t in
    let x = scheduler_in c.args.cells.now in
    let less = c.loop-t-test.true in
    copy_next _ _ _ 32 l.t 0 (λ y a. with_link y l.t a) _ _ (links_long _) (search cases) less (link_put x l.t less) l.invariant c.put_link.ensures

pub returns : goal.returns
returns c = copy_all _ _ _ 32 _ _ (links_long _) (search cases) c.loop-t-test.false c.loop-t.invariant
