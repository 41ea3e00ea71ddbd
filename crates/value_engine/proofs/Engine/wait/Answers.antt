-- `Engine::wait` meets its contract: by its verdict, and each call by its own. Assumes nothing.
use Rattle.value_engine.specs.Engines.{wait_model}
use Rattle.value_engine.proofs.Engine.wait.Goals as goal

pub returns-then-not-is_done : goal.returns-then-not-is_done
unfolding wait_model
returns-then-not-is_done c =
    rw (← c.owned_by-owned.ensures, ← c.ids_verdict-ids.ensures, ← c.held_verdict-held.ensures, ← c.first_of-verdict.ensures, ← c.is_done.ensures, c.if-not-is_done.true) c.refused.ensures

pub returns : goal.returns
unfolding wait_model
returns c =
    rw (← c.owned_by-owned.ensures, ← c.ids_verdict-ids.ensures, ← c.held_verdict-held.ensures, ← c.first_of-verdict.ensures, ← c.is_done.ensures, c.if-not-is_done.false, ← c.wait-after.ensures) c.answered.ensures
