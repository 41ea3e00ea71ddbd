-- `highest_at` is the plain search. The invariant: the search below p gives what the whole search gives.
-- Assumes nothing.
use Prim.Native.Nat.{◌-◌}
use mathlib.Core.Path.{◌≡◌, refl, sym, ap, ◌∙◌}
use native.Mathlib.Omega.{arith}
use borrow.Author.Tests.{lt-ltb, le-ltb}
use lib.Dec.{ltb}
use Rattle.queue.specs.declared.Queue.{Queue}
use Rattle.queue.specs.Linking.{has_first, highest_model}
use Rattle.queue.proofs.Searches.{search_none, search_found, search_passed}
use Rattle.place_tables.proofs.highest_at.Invariants.{searched}
use Rattle.place_tables.proofs.highest_at.Goals as goal

pub loop-p-init : goal.loop-p-init
unfolding highest_model
loop-p-init c = refl

pub returns-then-queue-lt-THREADS : goal.returns-then-queue-lt-THREADS
unfolding has_first
returns-then-queue-lt-THREADS c =
    let s = searched c.args.cells.now c.args.n in
    let first = ap (λ (q : Queue). ltb q.first 32) (sym c.queue_at-queue.ensures) ∙ lt-ltb _ _ c.if-queue-lt-THREADS.true in
    sym (c.loop-p.invariant ∙ search_found (has_first s) 16 c.loop-p.p (c.loop-p.p - 1) (omega arith) first)

pub loop-p-preserved : goal.loop-p-preserved
unfolding has_first
loop-p-preserved c =
    let s = searched c.args.cells.now c.args.n in
    let none = ap (λ (q : Queue). ltb q.first 32) (sym c.queue_at-queue.ensures) ∙ le-ltb _ _ c.if-queue-lt-THREADS.false in
    c.loop-p.invariant ∙ search_passed (has_first s) 16 c.loop-p.p (c.loop-p.p - 1) (omega arith) none

pub returns : goal.returns
returns c =
    let s = searched c.args.cells.now c.args.n in
    let end : c.loop-p.p ≡ 0 = omega arith in
    sym (rw end at c.loop-p.invariant ∙ search_none (has_first s) 16)
