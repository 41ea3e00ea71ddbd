-- `owned_by` is the count. Assumes nothing.
use Rattle.std.proofs.Common.{rules, ◌≡◌, ◌==◌, count_by}
use mathlib.Core.Path.{◌∙◌}
use Rattle.value_effects.specs.declared.Mutex.{Mutex}
use Rattle.refusals.proofs.Owning.{counted}
use Rattle.refusals.proofs.owned_by.Goals as goal

pub returns : goal.returns
returns c =
    let e : c.count.result ≡ count_by (λ (row : Mutex). row.owner == c.args.t) c.args.mutexes = search rules in
    e ∙ counted c.args.mutexes c.args.t
