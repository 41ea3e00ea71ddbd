-- `put_timer` meets its contract: the word stored is the one change that the definition makes. Assumes nothing.
use borrow.Author.Rules.{rules}
use Prim.Native.Nat.{◌<◌}
use mathlib.Core.Path.{◌≡◌}
use lib.ListN.{length}
use Rattle.place_clock.proofs.Words.{timer_put}
use Rattle.place_clock.proofs.put_timer.Goals as goal

pub returns : goal.returns
returns c =
    let long : length c.args.clock.now ≡ 33 = search rules in
    let state_fits : c.args.row.state < 256 = search rules in
    let condition_fits : c.args.row.condition < 256 = search rules in
    let length_fits : c.args.row.length.0 < 65536 = search rules in
    rw (c.store.ensures, c.from-state.ensures, c.from-condition.ensures, c.from-length.ensures) (timer_put _ long _ _ state_fits condition_fits length_fits)
