-- `Run::at_boot` meets its contract by the engine's. Assumes nothing.
use mathlib.Core.Path.{ap, ◌∙◌}
use Rattle.run_pieces.specs.Pieces.{run_of}
use Rattle.run_pieces.proofs.Run.at_boot.Goals as goal

pub returns : goal.returns
returns c = c.begin.ensures ∙ ap (λ x. run_of x 0) c.boot-engine.ensures
