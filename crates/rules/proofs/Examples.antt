-- Document 01's marked examples hold: one statement over the whole table, by computation.
-- Assumes nothing.
use mathlib.Core.Path.{◌≡◌, refl}
use mathlib.Core.List.{map}
use Rattle.units.specs.Units.{repeat_of}
use Rattle.rules.specs.Queues.{empty_set, to_back, to_front, first_leaves, first_below}
use Rattle.rules.specs.State.{same, at, highest_ceiling, priority, owned, stand, own, tie, set_at, put_set, arrive, arrive_in_front, depart, boot}
use Rattle.rules.specs.Next.{run, run_first, choose_next}
use Rattle.rules.specs.Effects as E
use Rattle.rules.specs.Refusals.{tests, verdict_of}
use Rattle.rules.specs.Sound.{each, members, mem, distinct, timers_sound, none_goes, holds, sound}
use Rattle.rules.specs.Step.{after, step_sound, step}
use Rattle.rules.specs.Examples.{Example, last_of, answer, runner_and_queue, priority_of1, timer_and_answer, count_and_answer, tick_count_and_answer, alone, set_for, three, one_waits, times, at_count, table}

pub examples_hold : map (λ (e : Example). e.shown) table ≡ map (λ (e : Example). e.seen) table
unfolding repeat_of empty_set to_back to_front first_leaves first_below same at highest_ceiling priority owned stand own tie set_at put_set arrive arrive_in_front depart boot run run_first choose_next E.thread_created E.mutex_created E.condition_created E.acquired E.passed_to E.released E.waited E.woken E.untied E.signalled_to E.signalled E.signalled_times E.leavers E.ticked E.due_conditions E.signalled_each E.effect E.given tests verdict_of each members mem distinct timers_sound none_goes holds sound after step_sound step last_of answer runner_and_queue priority_of1 timer_and_answer count_and_answer tick_count_and_answer alone set_for three one_waits times at_count table
examples_hold = refl
