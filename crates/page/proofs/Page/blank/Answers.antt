-- `Page::blank` meets its contract. Assumes nothing.
use Rattle.laws.specs.Lists.{tabulate}
use Rattle.page.specs.Says.{page_for}
use mathlib.Core.Path.{refl}
use Rattle.page.proofs.Page.blank.Goals as goal

pub returns : goal.returns
unfolding page_for tabulate
returns c = refl
