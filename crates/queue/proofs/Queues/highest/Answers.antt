-- `Queues::highest` is the plain search. The invariant: the search below the priorities passed gives what the whole search gives. Assumes nothing.
use Prim.Native.Nat.{◌+◌, ◌-◌}
use mathlib.Core.Path.{◌≡◌, refl, sym, ap, ◌∙◌}
use native.Mathlib.Omega.{arith}
use lib.ListN.{length}
use borrow.Author.Rules.{rules}
use borrow.Author.Tests.{lt-ltb, le-ltb}
use Rattle.queue.specs.Linking.{has_first, highest_below, highest_model}
use Rattle.queue.proofs.Cases.{cases}
use Rattle.queue.proofs.Searches.{search_none, search_found, search_passed, test_at}
use Rattle.queue.proofs.Queues.highest.Goals as goal

pub loop-passed-init : goal.loop-passed-init
unfolding highest_model
loop-passed-init c = (search rules, refl)

pub returns-then-q-lt-THREADS : goal.returns-then-q-lt-THREADS
returns-then-q-lt-THREADS c =
    let s = c.args.self in
    let p = 15 - c.loop-passed.passed in
    let len : length s.levels ≡ 16 = search cases in
    let e = test_at s p _ len (omega arith) ∙ lt-ltb _ _ c.if-q-lt-THREADS.true in
    sym (c.loop-passed.invariant.1 ∙ search_found (has_first s) 16 (16 - c.loop-passed.passed) p (omega arith) e)

pub loop-passed-preserved : goal.loop-passed-preserved
loop-passed-preserved c =
    let s = c.args.self in
    let p = 15 - c.loop-passed.passed in
    let len : length s.levels ≡ 16 = search cases in
    let e = test_at s p _ len (omega arith) ∙ le-ltb _ _ c.if-q-lt-THREADS.false in
    let n : p ≡ 16 - (c.loop-passed.passed + 1) = omega arith in
    (omega arith, c.loop-passed.invariant.1 ∙ search_passed (has_first s) 16 (16 - c.loop-passed.passed) p (omega arith) e ∙ ap (highest_below (has_first s) 16) n)

pub returns : goal.returns
returns c =
    let s = c.args.self in
    let z : 16 - c.loop-passed.passed ≡ 0 = omega arith in
    sym (c.loop-passed.invariant.1 ∙ ap (highest_below (has_first s) 16) z ∙ search_none (has_first s) 16)
