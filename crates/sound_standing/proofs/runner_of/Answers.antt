-- `runner_of` meets its contract: the first thread that runs. Assumes nothing.
use Prim.Native.Nat.{ℕ}
use mathlib.Core.Bool.{Bool}
use mathlib.Core.Path.{◌≡◌, sym, ap, ◌∙◌}
use native.Mathlib.Omega.{arith}
use Rattle.std.proofs.Common.{rules}
use Rattle.std.specs.List.{find, range_with_len}
use Rattle.std.specs.Option.{unwrap_or}
use Rattle.std.proofs.lemmas.Iterator.Adapters.{option_map_id}
use Rattle.std.proofs.lemmas.Iterator.Search.{find_from_yields_List}
use Rattle.rules.specs.State.{same, running}
use Rattle.rules.specs.Page.{where_of, runner_from}
use borrow.Author.Tests.{tests}
use Rattle.page.proofs.Ranges.{numbers}
use Rattle.sound_standing.specs.Standing.{row_at, stands_of, threads_in}
use Rattle.sound_standing.proofs.Found.{runner_found}
use Rattle.sound_standing.proofs.runner_of.Goals as goal

pub returns : goal.returns
unfolding threads_in where_of
returns c =
    let test : ℕ → Bool = λ t. same (stands_of (row_at c.args.rows t)) running in
    let first : c.find.result ≡ find test (range_with_len 0 c.args.n) =
    sym (option_map_id c.find.result) ∙ find_from_yields_List test _ _ c.find.result c.find.ensures.ran (numbers c.args.n) (λ t b q k. search (rules, tests)) in
    let found : unwrap_or c.find.result 255 ≡ runner_from 0 (threads_in c.args.rows c.args.n) =
    ap (λ o. unwrap_or o 255) first ∙ runner_found c.args.n 0 test _ (λ t. ap test (omega arith)) in
    search (rules, found)
