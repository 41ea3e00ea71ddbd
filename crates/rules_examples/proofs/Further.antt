-- In each of these runs the definitions show what is to be seen: by computation.
-- Assumes nothing.
use mathlib.Core.Path.{◌≡◌, refl}
use mathlib.Core.List.{map}
use Rattle.units.specs.Units.{repeat_of}
use Rattle.rules.specs.Queues.{empty_set, to_back, to_front, first_leaves, first_below}
use Rattle.rules.specs.State.{same, at, highest_ceiling, priority, owned, stand, own, tie, set_at, put_set, arrive, arrive_in_front, depart, boot}
use Rattle.rules.specs.Next.{run, run_first, choose_next}
use Rattle.rules.specs.Effects as E
use Rattle.rules.specs.Refusals.{tests, verdict_of}
use Rattle.rules.specs.Sound.{each, members, mem, distinct, timers_sound, none_goes, holds, sound}
use Rattle.rules.specs.Step.{after, step_sound, step}
use Rattle.rules.specs.Examples.{Example, last_of, answer, alone, times, at_count}
use Rattle.rules_examples.specs.Further.{runner_and_waiters, sound_and_answer, both_wait, equals_sliced, timed, stop_after, expiries, sound_with, further}

pub further_runs_hold : map (λ (e : Example). e.shown) further ≡ map (λ (e : Example). e.seen) further
unfolding repeat_of empty_set to_back to_front first_leaves first_below same at highest_ceiling priority owned stand own tie set_at put_set arrive arrive_in_front depart boot run run_first choose_next E.thread_created E.mutex_created E.condition_created E.acquired E.passed_to E.released E.waited E.woken E.untied E.signalled_to E.signalled E.signalled_times E.leavers E.ticked E.due_conditions E.signalled_each E.effect E.given tests verdict_of each members mem distinct timers_sound none_goes holds sound after step_sound step last_of answer alone times at_count runner_and_waiters sound_and_answer both_wait equals_sliced timed stop_after expiries sound_with further
further_runs_hold = refl
