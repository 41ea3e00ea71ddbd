-- `step` meets its contract: each arm by its call. Assumes nothing.
use Rattle.value_engine.specs.Engines.{step_model}
use Rattle.place_step.proofs.step.Goals as goal

pub returns-in-Start : goal.returns-in-Start
unfolding step_model
returns-in-Start c = rw c.in-Start.is (c.start.ensures _)

pub returns-in-CreateThread : goal.returns-in-CreateThread
unfolding step_model
returns-in-CreateThread c = rw c.in-CreateThread.is (c.create_thread.ensures _)

pub returns-in-CreateMutex : goal.returns-in-CreateMutex
unfolding step_model
returns-in-CreateMutex c = rw c.in-CreateMutex.is (c.create_mutex.ensures _)

pub returns-in-CreateCondition : goal.returns-in-CreateCondition
unfolding step_model
returns-in-CreateCondition c = rw c.in-CreateCondition.is (c.create_condition.ensures _)

pub returns-in-CreateTimer : goal.returns-in-CreateTimer
unfolding step_model
returns-in-CreateTimer c = rw c.in-CreateTimer.is (c.create_timer.ensures _)

pub returns-in-Acquire : goal.returns-in-Acquire
unfolding step_model
returns-in-Acquire c =
    rw (c.with_answer.ensures, c.in-Acquire.is) (c.acquire.ensures _)

pub returns-in-Release : goal.returns-in-Release
unfolding step_model
returns-in-Release c =
    rw (c.with_answer-in-Release.ensures, c.in-Release.is) (c.release.ensures _)

pub returns-in-Wait : goal.returns-in-Wait
unfolding step_model
returns-in-Wait c =
    rw (c.with_answer-in-Wait.ensures, c.in-Wait.is) (c.wait.ensures _)

pub returns-in-Signal : goal.returns-in-Signal
unfolding step_model
returns-in-Signal c =
    rw (c.with_answer-in-Signal.ensures, c.in-Signal.is) (c.signal.ensures _)

pub returns-in-Broadcast : goal.returns-in-Broadcast
unfolding step_model
returns-in-Broadcast c =
    rw (c.with_answer-in-Broadcast.ensures, c.in-Broadcast.is) (c.broadcast.ensures _)

pub returns-in-StartTimer : goal.returns-in-StartTimer
unfolding step_model
returns-in-StartTimer c =
    rw (c.with_answer-in-StartTimer.ensures, c.in-StartTimer.is) c.start_timer.ensures

pub returns-in-StopTimer : goal.returns-in-StopTimer
unfolding step_model
returns-in-StopTimer c =
    rw (c.with_answer-in-StopTimer.ensures, c.in-StopTimer.is) c.stop_timer.ensures

pub returns-in-Tick : goal.returns-in-Tick
unfolding step_model
returns-in-Tick c =
    rw (c.with_answer-in-Tick.ensures, c.in-Tick.is) c.tick.ensures
