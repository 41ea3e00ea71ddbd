-- `join` meets its contract: the kept bytes are laid first, and those of the piece behind them. Assumes nothing.
use Prim.Native.Nat.{◌≤◌, min}
use mathlib.Core.Path.{◌≡◌, sym, ap, ◌∙◌}
use native.Mathlib.Omega.{arith}
use lib.ListN.{length, take, length-append, length-take}
use lib.Seq.{length-take-le}
use borrow.Author.Rules.{rules}
use Rattle.run_pieces.proofs.Laying.{take_least, joined_laid}
use Rattle.run_pieces.proofs.join.Goals as goal

pub slice_bounds-lay-end : goal.slice_bounds-lay-end
slice_bounds-lay-end c =
    let kept = c.args.kept in
    let few = c.min-few.result in
    let within : few ≤ length kept = search rules in
    sym (length-take-le few kept within)

pub slice_bounds-lay-end-3 : goal.slice_bounds-lay-end-3
slice_bounds-lay-end-3 c =
    let block = c.args.block.now in
    let size : length block ≡ 8192 = search rules in
    sym (length-take-le _ block (omega (arith, c.min-many.ensures)))

pub returns : goal.returns
returns c =
    let given = c.args in
    let block = given.block.now in
    let few = c.min-few in
    let many = c.min-many in
    let first = c.lay-first in
    let second = c.lay in
    let size : length block ≡ 8192 = search rules in
    let room : length given.joined.now ≡ 8200 = search rules in
    let kept : take few.result given.kept ≡ take (min given.count 7) given.kept = ap (λ n. take n given.kept) few.ensures in
    let piece : take many.result block ≡ take given.held block = ap (λ n. take n block) many.ensures ∙ take_least given.held block size in
    let short = length-take few.result given.kept in
    let shorter = length-take many.result block in
    let joined = joined_laid given.joined.now (take few.result given.kept) (take many.result block) (omega (arith, short, shorter, few.ensures, many.ensures))
    first.result _ second.result _ first.ensures.0 first.ensures.1 second.ensures.0 second.ensures.1 in
    (rw (← kept, ← piece) joined.0, rw (← kept, ← piece) joined.1, omega (arith, joined.0, length-append (take few.result given.kept) (take many.result block), short, shorter, few.ensures, many.ensures))
