-- `Engine::boot` meets its contract: each call by its own, and what they make is document 01's boot. Assumes nothing.
use Rattle.value_engine.specs.Engines.{boot_model}
use Rattle.value_engine.proofs.Steps.{boot_stands}
use Rattle.value_engine.proofs.Engine.boot.Goals as goal

pub returns : goal.returns
unfolding boot_model
returns c = rw (← boot_stands) (rw (c.empty-wheel.ensures, c.first_scheduler-scheduler.ensures))
