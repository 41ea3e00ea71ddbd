-- `Engine::answered` meets its contract: by whether the scheduler has started, and the choice by its own. Assumes nothing.
use Rattle.value_engine.specs.Engines.{answered_model}
use Rattle.value_engine.proofs.Engine.answered.Goals as goal

pub returns-then-self : goal.returns-then-self
unfolding answered_model
returns-then-self c = rw (c.if-self.true, ← c.choose_next-chosen.ensures)

pub returns : goal.returns
unfolding answered_model
returns c = rw c.if-self.false
