-- The sum of the answers to rows, one after the other.
-- Assumes nothing.
use Rattle.std.specs.Prelude.{◌≡◌, ℕ, zero, suc, ◌+◌, ◌*◌, ◌%◌, ◌^◌, ◌<◌, true, List}
use Rattle.calls.specs.declared.Answer.{Answer}
use Rattle.rules.specs.State.{State, boot}
use Rattle.rules.specs.Sound.{sound}
use Rattle.value_engine.specs.Stands.{engine_of}
use Rattle.place_calls.specs.declared.Counts.{Counts}
use Rattle.place_timers.specs.Arrays.{engine_on}
use Rattle.run_rows.specs.Rows.{row_model}
use Rattle.run_rows.specs.Many.{rows_in, Reached, after_rows}
use Rattle.kernel.specs.Kernels.{kernel_of}
use Rattle.run_tally.specs.declared.Called.{Called}
use Rattle.run_tally.specs.declared.Tally.{Tally}

-- the engine that stands in three arrays, and a sum
abbrev pub tally_on : List ℕ → List ℕ → List ℕ → Counts → ℕ → Reached ℕ
tally_on k t w n sum = record { engine = engine_on k t w n; made = sum }

-- an engine by value, and a sum
abbrev pub tally_by : Tally → Reached ℕ
tally_by t = record { engine = t.engine; made = t.sum }

-- a kernel's engine, and a sum
abbrev pub tally_from : Called → Reached ℕ
tally_from c = record { engine = c.kernel.engine; made = c.sum }

-- the kernel describes a sound state
abbrev pub Describes : Called → Type 0
Describes c = (s : State) × (sound s ≡ true) × (c.kernel ≡ kernel_of s)

-- an answer as the code has it: given in 16 bits, running in 8
pub record Fits (answer : Answer) : Type 0 where
  pub given : answer.given < 65536
  pub running : answer.running < 256

-- an answer as one number: no two answers that fit come to the same
abbrev pub weight : Answer → ℕ
weight answer = answer.number * 16777216 + answer.given * 256 + answer.running

-- a sum with one answer more
abbrev pub add_weight : ℕ → Answer → ℕ
add_weight sum answer = (sum + weight answer) % 2 ^ 64

-- one row more
abbrev pub tally_row : Reached ℕ → List ℕ → Reached ℕ
tally_row r row = record { engine = (row_model r.engine row).engine; made = add_weight r.made (row_model r.engine row).answer }

-- all whole rows of a list of bytes, in order; fewer than 8 bytes at the end are left
abbrev pub over_rows : Reached ℕ → List ℕ → Reached ℕ
over_rows r rows = after_rows add_weight r (rows_in rows)

-- that, so many times
unfoldable pub repeated : ℕ → Reached ℕ → List ℕ → Reached ℕ
repeated zero r rows = r
repeated (suc n) r rows = repeated n (over_rows r rows) rows

-- from boot, a setup once, and the sum over the rows of a loop, so many times
unfoldable pub sum_of : List ℕ → List ℕ → ℕ → ℕ
sum_of setup rows repeats =
    let ready = over_rows (record { engine = engine_of boot; made = 0 }) setup in
    (repeated repeats (record { engine = ready.engine; made = 0 }) rows).made
