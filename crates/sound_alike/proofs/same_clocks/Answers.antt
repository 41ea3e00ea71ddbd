-- `same_clocks` meets its contract: two clocks are one exactly if their words are. Assumes nothing.
use Rattle.std.proofs.Common.{rules, ◌≡◌, true, length}
use mathlib.Core.Path.{ap}
use Rattle.place_clock.specs.Clock.{clock_in}
use Rattle.place_clock.proofs.Words.{clock_once}
use Rattle.sound_alike.proofs.same_clocks.Goals as goal

pub returns : goal.returns
returns c =
    let a = c.args in
    let long : length a.one.now ≡ 33 = search rules in
    let as_long : length a.other.now ≡ 33 = search rules in
    let same : (c.eq.result ≡ true → a.one.now ≡ a.other.now) × (a.one.now ≡ a.other.now → c.eq.result ≡ true) = search rules in
    (λ t. ap clock_in (same.0 t), λ e. same.1 (clock_once _ _ long as_long e))
