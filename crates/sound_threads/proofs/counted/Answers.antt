-- `counted` meets its contract. The invariant: the counts so far are those of the threads below. Assumes nothing.
use mathlib.Core.Path.{◌≡◌, sym}
use native.Mathlib.Omega.{arith}
use Rattle.std.proofs.Common.{rules}
use Rattle.sound_threads.specs.Threads.{smaller_at, equal_at, counted_in}
use Rattle.sound_threads.proofs.Counts.{many_none, many_on, many_fits}
use Rattle.sound_threads.proofs.counted.Goals as goal

pub loop-u-init : goal.loop-u-init
loop-u-init c = (sym (many_none _), sym (many_none _))

pub overflow_add-smaller : goal.overflow_add-smaller
overflow_add-smaller c =
    let fits = many_fits _ _ _ _ _ c.loop-u.invariant.0 c.from.ensures (omega arith) in search rules

pub overflow_add-equal : goal.overflow_add-equal
overflow_add-equal c =
    let fits = many_fits _ _ _ _ _ c.loop-u.invariant.1 c.from-in-loop-u.ensures (omega arith) in search rules

pub loop-u-preserved : goal.loop-u-preserved
unfolding smaller_at equal_at
loop-u-preserved c = (
  many_on _ _ _ _ _ c.loop-u.invariant.0 c.from.ensures (search rules),
  many_on _ _ _ _ _ c.loop-u.invariant.1 c.from-in-loop-u.ensures (search rules),
)

pub returns-then-smaller-row : goal.returns-then-smaller-row
unfolding counted_in
returns-then-smaller-row c =
    let end : c.loop-u.u ≡ c.args.threads = omega arith in
    let told = c.loop-u.invariant in search rules

pub returns-else-smaller-row : goal.returns-else-smaller-row
unfolding counted_in
returns-else-smaller-row c =
    let end : c.loop-u.u ≡ c.args.threads = omega arith in
    let told = c.loop-u.invariant in search rules
