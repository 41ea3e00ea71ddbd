-- `Engine::refused` meets its contract: the number by its own. Assumes nothing.
use Rattle.value_engine.specs.Engines.{refused_model}
use Rattle.value_engine.proofs.Engine.refused.Goals as goal

pub returns : goal.returns
unfolding refused_model
returns c = rw c.number-n.ensures
