-- `Engine::tick` meets its contract: by whether the scheduler has started and a timer is due, and each call by its own. Assumes nothing.
use borrow.Author.Tests.{not-true, not-false}
use native.Mathlib.Omega.{arith}
use Rattle.wheel.specs.Promise.{ticked_in, ids_of}
use Rattle.value_engine.specs.Engines.{tick_model, turned}
use Rattle.value_engine.proofs.Serving.{serve_none}
use Rattle.value_engine.proofs.Engine.tick.Goals as goal

pub returns-then-not-self : goal.returns-then-not-self
unfolding tick_model
returns-then-not-self c =
    rw (← c.refused.ensures, not-true c.args.self.started c.if-not-self.true)

pub returns-then-first-ge-TIMERS : goal.returns-then-first-ge-TIMERS
unfolding tick_model
returns-then-first-ge-TIMERS c =
    let x = c.args.self in
    let ticked = c.tick-ticked.ensures.always in
    let none = rw (c.first-first.ensures, ticked) at c.if-first-ge-TIMERS.true in
    let on = not-false x.started c.if-not-self.false in
    rw (serve_none (turned x) (ids_of (ticked_in x.wheel).due) 0 (omega arith) none, ← ticked, on) (rw on at c.answered.ensures)

pub returns : goal.returns
unfolding tick_model
returns c =
    rw (← c.tick-ticked.ensures.always, ← c.serve_all-effect.ensures, not-false c.args.self.started c.if-not-self.false) c.answered-2.ensures
