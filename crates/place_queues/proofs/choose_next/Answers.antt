-- `choose_next` meets its contract, by the laws of `Choices`. Assumes nothing.
use mathlib.Core.Path.{refl}
use Rattle.place_queues.proofs.Choices.{runner_waits, none_ready, higher_ready, equal_ready, lower_ready, stays}
use Rattle.place_queues.proofs.choose_next.Goals as goal
use Rattle.place_queues.proofs.choose_next.Goals.{else-tick-via-then-tick+else-row-best-2, else-tick-via-else-tick}

pub returns-then-row-ge-FOR_MUTEX : goal.returns-then-row-ge-FOR_MUTEX
returns-then-row-ge-FOR_MUTEX c =
    rw c.run_first.ensures (runner_waits _ _ _ _ c.running_at-running.ensures c.thread_at-row.ensures refl _ c.if-row-ge-FOR_MUTEX.true)

pub returns-then-best-ge-PRIORITIES : goal.returns-then-best-ge-PRIORITIES
returns-then-best-ge-PRIORITIES c =
    none_ready _ _ _ _ c.running_at-running.ensures c.thread_at-row.ensures c.highest_at-best.ensures _ c.if-row-ge-FOR_MUTEX.false c.if-best-ge-PRIORITIES.true

pub returns-then-row-best : goal.returns-then-row-best
returns-then-row-best c =
    rw (c.run_first-then-row-best.ensures, c.arrive_in_front.ensures) (higher_ready _ _ _ _ c.running_at-running.ensures c.thread_at-row.ensures c.highest_at-best.ensures _ c.if-row-ge-FOR_MUTEX.false c.if-best-ge-PRIORITIES.false c.if-row-best.true)

pub returns-then-row-best-2 : goal.returns-then-row-best-2
returns-then-row-best-2 c =
    rw (c.run_first-then-row-best-2.ensures, c.arrive.ensures, c.if-tick.true) (equal_ready _ _ _ _ c.running_at-running.ensures c.thread_at-row.ensures c.highest_at-best.ensures c.if-row-ge-FOR_MUTEX.false c.if-best-ge-PRIORITIES.false c.if-row-best.false c.if-row-best-2.true)

pub returns-else-tick : goal.returns-else-tick
returns-else-tick c =
    elim c.else-tick.branch [
      | else-tick-via-then-tick+else-row-best-2 w ↦
          rw w.if-tick.true (lower_ready _ _ _ _ c.running_at-running.ensures c.thread_at-row.ensures c.highest_at-best.ensures c.if-row-ge-FOR_MUTEX.false c.if-best-ge-PRIORITIES.false c.if-row-best.false w.if-row-best-2.false)
      | else-tick-via-else-tick w ↦
          rw w.if-tick.false (stays _ _ _ _ c.running_at-running.ensures c.thread_at-row.ensures c.highest_at-best.ensures c.if-row-ge-FOR_MUTEX.false c.if-best-ge-PRIORITIES.false c.if-row-best.false)
    ]
