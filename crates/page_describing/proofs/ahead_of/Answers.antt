-- `ahead_of` counts those ahead. The invariant: the count and those ahead on the rest of the walk make the whole. Assumes nothing.
use mathlib.Core.Path.{◌≡◌, sym, ◌∙◌}
use native.Mathlib.Omega.{arith}
use Rattle.queue.specs.Linking.{read_model}
use Rattle.page_describing.proofs.Ahead.{count_ends, count_full, count_met, count_more}
use Rattle.page_describing.proofs.ahead_of.Goals as goal

pub returns-then-here-ge-THREADS : goal.returns-then-here-ge-THREADS
unfolding read_model
returns-then-here-ge-THREADS c = count_ends _ _ _ _ _ c.loop-count.invariant c.if-here-ge-THREADS.true

pub returns-then-t-here : goal.returns-then-t-here
unfolding read_model
returns-then-t-here c =
    count_met _ _ _ _ _ c.loop-count.invariant c.loop-count-test.true c.if-here-ge-THREADS.false c.if-t-here.true

pub loop-count-preserved : goal.loop-count-preserved
loop-count-preserved c =
    count_more _ _ _ _ _ c.loop-count.invariant _ c.loop-count-test.true c.if-here-ge-THREADS.false c.if-t-here.false c.link_at-here.ensures

pub returns : goal.returns
unfolding read_model
returns c =
    let all : c.loop-count.count ≡ 32 = omega arith in
    sym all ∙ count_full _ _ _ _ _ c.loop-count.invariant c.loop-count-test.false
