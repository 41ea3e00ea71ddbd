-- The run that document 01 shows, by computation: for the definition, and so for any pieces.
-- Assumes nothing.
use Prim.Native.Nat.{ℕ}
use mathlib.Core.Path.{◌≡◌, refl, ap, ◌∙◌}
use mathlib.Core.List.{List, flatten}
use Rattle.calls.specs.Rows.{fits, by_code, taken, decoded}
use Rattle.rules.specs.Queues.{empty_set, to_back, to_front, first_leaves, first_below}
use Rattle.rules.specs.State.{same, at, highest_ceiling, priority, owned, stand, own, tie, set_at, put_set, arrive, arrive_in_front, depart, boot}
use Rattle.rules.specs.Next.{run, run_first, choose_next}
use Rattle.rules.specs.Effects as E
use Rattle.rules.specs.Refusals.{tests, verdict_of}
use Rattle.rules.specs.Sound.{each, members, mem, distinct, timers_sound, none_goes, holds, sound}
use Rattle.rules.specs.Step.{after, step_sound, step, step_decoded, step_row}
use Rattle.book.specs.Answers.{answers_of, final_of}
use Rattle.record_bytes.specs.Record.{cut_rows}
use Rattle.run_text.specs.Texts.{digits_in, digits, line_bytes}
use Rattle.run_rows.specs.Many.{rows_in}
use Rattle.run_lines.specs.Output.{numbered}
use Rattle.run_pieces.specs.declared.Run.{Run}
use Rattle.run_pieces.specs.Whole.{AtBoot, cut_answer, answers_to, text_of_run, shown_calls, shown_text}
use Rattle.run_pieces.specs.Pieces.{run_at, Feeds}
use Rattle.run_pieces.proofs.Pieces.{pieces_are_one}

-- the text of the run that is shown
pub a_run_whole : text_of_run AtBoot shown_calls ≡ shown_text
unfolding empty_set to_back to_front first_leaves first_below same at highest_ceiling priority owned stand own tie set_at put_set arrive arrive_in_front depart boot run run_first choose_next E.thread_created E.mutex_created E.condition_created E.acquired E.passed_to E.released E.waited E.woken E.untied E.signalled_to E.signalled E.signalled_times E.leavers E.ticked E.due_conditions E.signalled_each E.effect E.given tests verdict_of each members mem distinct timers_sound none_goes holds sound after step_sound step step_decoded step_row fits by_code taken decoded answers_of final_of cut_rows digits_in digits line_bytes numbered rows_in cut_answer answers_to text_of_run
a_run_whole = refl

-- and whatever a run writes of it, in any pieces
pub a_run_in_pieces : (x : Run) → x ≡ run_at AtBoot → (pieces : List (List ℕ)) → flatten pieces ≡ shown_calls → (written : List ℕ) (y : Run) → Feeds x pieces written y → written ≡ shown_text
a_run_in_pieces x e pieces f written y w = (pieces_are_one AtBoot x e pieces written y w).0 ∙ ap (text_of_run AtBoot) f ∙ a_run_whole
