-- `highest_ceiling` meets its contract: the largest of the ceilings. Assumes nothing.
use Prim.Native.Nat.{ℕ, max}
use mathlib.Core.Path.{◌≡◌, ◌∙◌}
use mathlib.Core.List.{map}
use Rattle.std.proofs.Common.{rules}
use Rattle.std.specs.List.{fold, range_with_len}
use Rattle.value_effects.specs.Effects.{ceiling_for}
use borrow.Author.Tests.{tests}
use Rattle.std.proofs.lemmas.Iterator.{YieldsList-from_map}
use Rattle.std.proofs.lemmas.Iterator.Consumers.{fold_from_yields_List, YieldsList-at}
use Rattle.page.proofs.Ranges.{numbers}
use Rattle.sound_standing.specs.Standing.{mutex_at, ceiling_in}
use Rattle.sound_standing.proofs.Found.{largest_above_0}
use Rattle.sound_standing.proofs.highest_ceiling.Goals as goal

pub returns : goal.returns
unfolding ceiling_in
returns c =
    let ceiling : ℕ → ℕ = λ m. ceiling_for (mutex_at c.args.mutexes m) c.args.t in
    let folded : c.fold.result ≡ fold (λ best x. max x best) 0 (map ceiling (range_with_len 0 c.args.n)) =
    fold_from_yields_List _ (λ best x. max x best) 0 c.fold.result c.fold.ensures.ran
    (YieldsList-from_map _ ceiling (YieldsList-at c.map.ensures.source (numbers c.args.n)) c.map.ensures.closure (λ m r q k. search (rules, tests)))
    (λ best x r q k. search (rules, tests)) in
    folded ∙ largest_above_0 c.args.n ceiling
