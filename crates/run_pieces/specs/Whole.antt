-- A run, whole, by document 01's definitions: where it begins, the text of all its bytes, and what saving at its end gives.
-- Assumes nothing.
use Rattle.std.specs.Prelude.{None}
use Rattle.std.specs.Prelude.{ℕ, ◌%◌, Bool, cond, List, [], ◌∷◌, ◌++◌, map, length, eqb}
use Rattle.calls.specs.declared.Answer.{Answer}
use Rattle.calls.specs.declared.Verdict.TheVariants.{Done}
use Rattle.calls.specs.Answers.{number_of}
use Rattle.calls.specs.Rows.{decoded}
use Rattle.rules.specs.State.{State, boot}
use Rattle.rules.specs.Step.{step_decoded}
use Rattle.book.specs.Answers.{answers_of, final_of}
use Rattle.record_bytes.specs.Loading.{Loaded, load, Saved, refused_save, save}
use Rattle.run_text.specs.Texts.{heading_bytes, refusal_bytes}
use Rattle.run_rows.specs.Many.{rows_in}
use Rattle.run_lines.specs.Output.{numbered}

-- where a run begins: at boot, or at a record of some bytes
pub data Start : Type 0 where
  AtBoot : Start
  AtRecord : List ℕ → Start

-- the answer to a start, and the state that it gives: boot's, or what a load gives
abbrev pub begun : Start → Loaded
begun AtBoot = record { answer = Done; state = boot }
begun (AtRecord bytes) = load bytes

-- whether a start is taken: a record may be refused
abbrev pub taken : Start → Bool
taken start = eqb (number_of (begun start).answer) 0

-- the state after the whole rows of some bytes
abbrev pub state_after : State → List ℕ → State
state_after s bytes = final_of s (map decoded (rows_in bytes))

-- the answer to a row that is cut short, where the bytes end in one
unfoldable pub cut_answer : State → List ℕ → List Answer
cut_answer s bytes = cond (eqb (length bytes % 8) 0) [] ((step_decoded s None).answer ∷ [])

-- the answers to some bytes, in order: one for each whole row, and one for a last row that is cut short
unfoldable pub answers_to : State → List ℕ → List Answer
answers_to s bytes = answers_of s (map decoded (rows_in bytes)) ++ cut_answer (state_after s bytes) bytes

-- the text of a run: the heading and one line for each answer; of a refused start its one line
unfoldable pub text_of_run : Start → List ℕ → List ℕ
text_of_run start bytes =
    cond (taken start)
    (heading_bytes ++ numbered 0 (answers_to (begun start).state bytes))
    (refusal_bytes (number_of (begun start).answer))

-- what saving at the end of a run gives: the save of the state after the whole rows; of a refused start its refusal
unfoldable pub run_end : Start → List ℕ → List ℕ → Saved
run_end start bytes buffer =
    cond (taken start)
    (save (state_after (begun start).state bytes) buffer)
    (refused_save (begun start).answer buffer)

-- ---- a run, whole, as document 01 shows it

-- rows 02 04 00 00 00 00 00 00, then 01 and seven zeros, then 0D and seven zeros
abbrev pub shown_calls : List ℕ
shown_calls =
    2 ∷ 4 ∷ 0 ∷ 0 ∷ 0 ∷ 0 ∷ 0 ∷ 0
    ∷ 1 ∷ 0 ∷ 0 ∷ 0 ∷ 0 ∷ 0 ∷ 0 ∷ 0
    ∷ 13 ∷ 0 ∷ 0 ∷ 0 ∷ 0 ∷ 0 ∷ 0 ∷ 0 ∷ []

-- `line answer given running`, `1 0 1 255`, `2 0 255 1` and `3 0 0 1`, each with a line feed
abbrev pub shown_text : List ℕ
shown_text =
    108 ∷ 105 ∷ 110 ∷ 101 ∷ 32 ∷ 97 ∷ 110 ∷ 115 ∷ 119 ∷ 101 ∷ 114 ∷ 32 ∷ 103 ∷ 105 ∷ 118 ∷ 101 ∷ 110 ∷ 32 ∷ 114 ∷ 117 ∷ 110 ∷ 110 ∷ 105 ∷ 110 ∷ 103 ∷ 10
    ∷ 49 ∷ 32 ∷ 48 ∷ 32 ∷ 49 ∷ 32 ∷ 50 ∷ 53 ∷ 53 ∷ 10
    ∷ 50 ∷ 32 ∷ 48 ∷ 32 ∷ 50 ∷ 53 ∷ 53 ∷ 32 ∷ 49 ∷ 10
    ∷ 51 ∷ 32 ∷ 48 ∷ 32 ∷ 48 ∷ 32 ∷ 49 ∷ 10 ∷ []
