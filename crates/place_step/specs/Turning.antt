-- A row that was taken apart as one call of an engine, and the counts of an engine.
-- Assumes nothing.
use Rattle.std.specs.Prelude.{Option, Some, None}
use Rattle.calls.specs.declared.Answer.{Answer}
use Rattle.calls.specs.declared.Call.{Call}
use Rattle.calls.specs.declared.Verdict.TheVariants.{WrongRow}
use Rattle.calls.specs.Answers.{number_of, nothing}
use Rattle.value_engine.specs.declared.Engine.{Engine}
use Rattle.value_engine.specs.declared.Stepped.{Stepped}
use Rattle.value_engine.specs.Engines.{step_model}
use Rattle.place_calls.specs.declared.Counts.{Counts}

-- the answer to a row that is cut short or of wrong form
abbrev pub wrong_row_model : Engine → Answer
wrong_row_model x = record { number = number_of WrongRow; given = nothing; running = x.scheduler.running }

-- a row that was taken apart: its call done, or answered with nothing changed
unfoldable pub decoded_model : Engine → Option Call → Stepped
decoded_model x None = record { engine = x; answer = wrong_row_model x }
decoded_model x (Some call) = step_model x call

-- whether an engine is started, and its counts
abbrev pub counts_of : Engine → Counts
counts_of x = record { started = x.started; threads = x.threads; mutexes = x.mutexes; conditions = x.conditions; timercount = x.timercount }
