-- `Links::empty` is what its definition says. Assumes nothing.
use Rattle.queue.specs.Linking.{empty_links}
use mathlib.Core.Path.{refl}
use Rattle.queue.proofs.Links.empty.Goals as goal

pub returns : goal.returns
unfolding empty_links
returns c = refl
