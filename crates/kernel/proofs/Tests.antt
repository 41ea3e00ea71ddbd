-- Whether two values are the same, as tests that compute: of each kind of row, and of engines part by part.
-- Assumes nothing.
use mathlib.Core.Bool.{Bool, cond, not, ◌&&◌}
use lib.Dec.{eqb}
use Rattle.laws.specs.Same.{same_list}
use Rattle.queue.specs.declared.Queue.{Queue}
use Rattle.queue.specs.declared.Queues.{Queues}
use Rattle.value_tables.specs.declared.Thread.{Thread}
use Rattle.value_tables.specs.declared.Threads.{Threads}
use Rattle.value_effects.specs.declared.Mutex.{Mutex}
use Rattle.value_effects.specs.declared.Scheduler.{Scheduler}
use Rattle.wheel.specs.Promise.{same_wheel}
use Rattle.value_engine.specs.declared.Timer.{Timer}
use Rattle.value_engine.specs.declared.Engine.{Engine}

-- two flags
unfoldable pub same_flag : Bool → Bool → Bool
same_flag a b = cond a b (not b)

-- two queues by their ends
unfoldable pub same_queue : Queue → Queue → Bool
same_queue a b = eqb a.first b.first && eqb a.last b.last

-- two sets of queues
unfoldable pub same_queues : Queues → Queues → Bool
same_queues a b = same_list same_queue a.levels b.levels

-- two rows of threads
unfoldable pub same_thread : Thread → Thread → Bool
same_thread a b = (eqb a.base b.base && eqb a.priority b.priority) && (eqb a.state b.state && eqb a.object b.object)

-- two rows of mutexes
unfoldable pub same_mutex : Mutex → Mutex → Bool
same_mutex a b = eqb a.ceiling b.ceiling && (eqb a.owner b.owner && eqb a.count b.count)

-- two rows of timers
unfoldable pub same_timer : Timer → Timer → Bool
same_timer a b = eqb a.state b.state && (eqb a.condition b.condition && eqb a.length.0 b.length.0)

-- the threads, their links and the ready queues
unfoldable pub same_threads : Threads → Threads → Bool
same_threads a b = same_list same_thread a.rows b.rows && (same_list eqb a.links.next b.links.next && same_queues a.ready b.ready)

-- two schedulers
unfoldable pub same_scheduler : Scheduler → Scheduler → Bool
same_scheduler a b =
    same_threads a.threads b.threads
    && (same_list same_mutex a.mutexes b.mutexes
    && (same_list same_queues a.formutex b.formutex
    && (same_list eqb a.ties b.ties
    && (same_list same_queues a.oncondition b.oncondition && eqb a.running b.running))))

-- whether started, and the counts
unfoldable pub same_counts : Engine → Engine → Bool
same_counts a b =
    same_flag a.started b.started
    && ((eqb a.threads b.threads && eqb a.mutexes b.mutexes)
    && ((eqb a.conditions b.conditions && eqb a.timercount b.timercount) && eqb a.count b.count))

-- two engines
unfoldable pub same_engine : Engine → Engine → Bool
same_engine a b =
    same_scheduler a.scheduler b.scheduler
    && (same_list same_timer a.timers b.timers && (same_wheel a.wheel b.wheel && same_counts a b))
