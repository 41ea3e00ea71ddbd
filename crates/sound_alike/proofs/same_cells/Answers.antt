-- `same_cells` meets its contract: two schedulers are one exactly if their bytes are. Assumes nothing.
use Rattle.std.proofs.Common.{rules, ◌≡◌, true, length}
use mathlib.Core.Path.{ap}
use Rattle.place_tables.specs.Cells.{scheduler_in}
use Rattle.place_packing.proofs.Once.{bytes_once}
use Rattle.sound_alike.proofs.same_cells.Goals as goal

pub returns : goal.returns
returns c =
    let a = c.args in
    let long : length a.one.now ≡ 1281 = search rules in
    let as_long : length a.other.now ≡ 1281 = search rules in
    let same : (c.eq.result ≡ true → a.one.now ≡ a.other.now) × (a.one.now ≡ a.other.now → c.eq.result ≡ true) = search rules in
    (λ t. ap scheduler_in (same.0 t), λ e. same.1 (bytes_once _ _ long as_long e))
