-- `Engine::step` meets its contract: each arm by its call, and the law that carries the model to document 01. Assumes nothing.
use Rattle.value_engine.specs.Engines.{step_model}
use Rattle.value_engine.proofs.Steps.{step_promise}
use Rattle.value_engine.proofs.Engine.step.Goals as goal

pub returns-in-Start : goal.returns-in-Start
unfolding step_model
returns-in-Start c =
    let p = step_promise c.args.self c.args.call c.start.result (rw c.in-Start.is c.start.ensures) in
    record { always = p.0; means = p.1 }

pub returns-in-CreateThread : goal.returns-in-CreateThread
unfolding step_model
returns-in-CreateThread c =
    let p = step_promise c.args.self c.args.call c.create_thread.result (rw c.in-CreateThread.is c.create_thread.ensures) in
    record { always = p.0; means = p.1 }

pub returns-in-CreateMutex : goal.returns-in-CreateMutex
unfolding step_model
returns-in-CreateMutex c =
    let p = step_promise c.args.self c.args.call c.create_mutex.result (rw c.in-CreateMutex.is c.create_mutex.ensures) in
    record { always = p.0; means = p.1 }

pub returns-in-CreateCondition : goal.returns-in-CreateCondition
unfolding step_model
returns-in-CreateCondition c =
    let p = step_promise c.args.self c.args.call c.create_condition.result (rw c.in-CreateCondition.is c.create_condition.ensures) in
    record { always = p.0; means = p.1 }

pub returns-in-CreateTimer : goal.returns-in-CreateTimer
unfolding step_model
returns-in-CreateTimer c =
    let p = step_promise c.args.self c.args.call c.create_timer.result (rw c.in-CreateTimer.is c.create_timer.ensures) in
    record { always = p.0; means = p.1 }

pub returns-in-Acquire : goal.returns-in-Acquire
unfolding step_model
returns-in-Acquire c =
    let p = step_promise c.args.self c.args.call c.acquire.result (rw c.in-Acquire.is c.acquire.ensures) in
    record { always = p.0; means = p.1 }

pub returns-in-Release : goal.returns-in-Release
unfolding step_model
returns-in-Release c =
    let p = step_promise c.args.self c.args.call c.release.result (rw c.in-Release.is c.release.ensures) in
    record { always = p.0; means = p.1 }

pub returns-in-Wait : goal.returns-in-Wait
unfolding step_model
returns-in-Wait c =
    let p = step_promise c.args.self c.args.call c.wait.result (rw c.in-Wait.is c.wait.ensures) in
    record { always = p.0; means = p.1 }

pub returns-in-Signal : goal.returns-in-Signal
unfolding step_model
returns-in-Signal c =
    let p = step_promise c.args.self c.args.call c.signal.result (rw c.in-Signal.is c.signal.ensures) in
    record { always = p.0; means = p.1 }

pub returns-in-Broadcast : goal.returns-in-Broadcast
unfolding step_model
returns-in-Broadcast c =
    let p = step_promise c.args.self c.args.call c.broadcast.result (rw c.in-Broadcast.is c.broadcast.ensures) in
    record { always = p.0; means = p.1 }

pub returns-in-StartTimer : goal.returns-in-StartTimer
unfolding step_model
returns-in-StartTimer c =
    let p = step_promise c.args.self c.args.call c.start_timer.result (rw c.in-StartTimer.is c.start_timer.ensures) in
    record { always = p.0; means = p.1 }

pub returns-in-StopTimer : goal.returns-in-StopTimer
unfolding step_model
returns-in-StopTimer c =
    let p = step_promise c.args.self c.args.call c.stop_timer.result (rw c.in-StopTimer.is c.stop_timer.ensures) in
    record { always = p.0; means = p.1 }

pub returns-in-Tick : goal.returns-in-Tick
unfolding step_model
returns-in-Tick c =
    let p = step_promise c.args.self c.args.call c.tick.result (rw c.in-Tick.is c.tick.ensures) in
    record { always = p.0; means = p.1 }
