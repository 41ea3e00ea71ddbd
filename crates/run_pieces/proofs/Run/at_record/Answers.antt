-- `Run::at_record` meets its contract by that of `load`. Assumes nothing.
use mathlib.Core.Path.{ap, ◌∙◌}
use Rattle.record.specs.declared.Loaded.{Loaded}
use Rattle.run_pieces.specs.Pieces.{run_of}
use Rattle.run_pieces.proofs.Run.at_record.Goals as goal

pub returns : goal.returns
returns c = c.begin.ensures ∙ ap (λ (l : Loaded). run_of l.kernel.engine l.answer) c.load-loaded.ensures
