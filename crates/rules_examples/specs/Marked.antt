-- Document 01's marked examples, all twelve, as one table: those of the record and of the wheel, and behind them those of the calls.
-- Assumes nothing.
use Rattle.std.specs.Prelude.{ℕ, List, [], ◌∷◌, set, take}
use Rattle.calls.specs.Answers.{number_of}
use Rattle.rules.specs.State.{boot}
use Rattle.rules.specs.Examples.{Example, table}
use Rattle.record_bytes.specs.Record.{boot_record}
use Rattle.record_bytes.specs.Loading.{load, saved}
use Rattle.wheel.specs.declared.Wheel.{Wheel}
use Rattle.wheel.specs.Hung.{empty}
use Rattle.wheel.specs.Promise.{wheel_of, started_in, ticked_in, position_in, spoke_in, turns_in, ids_of}

-- the number that a load answers
abbrev pub load_answer : List ℕ → ℕ
load_answer bytes = number_of (load bytes).answer

-- the wheel at a tick count, with timer 0 started for n ticks
abbrev pub begun : ℕ → ℕ → Wheel
begun count n = started_in (wheel_of (empty count)) 0 n

-- the spoke and the turns of timer 0
abbrev pub spoke_and_turns : Wheel → List ℕ
spoke_and_turns w = spoke_in w 0 ∷ turns_in w 0 ∷ []

-- the count after a tick, as the wheel has it, and who comes due at it
abbrev pub count_and_due : Wheel → List ℕ
count_and_due w = position_in (ticked_in w).wheel ∷ ids_of (ticked_in w).due

-- the table
unfoldable pub marked : List Example
marked =
    -- E1 the boot record; it loads; 27 bytes of it: 15; its thread 0 with base 1: 1
    record { shown = saved boot; seen = boot_record }
    ∷ record { shown = load_answer boot_record ∷ load_answer (take 27 boot_record) ∷ load_answer (set boot_record 24 1) ∷ []; seen = 0 ∷ 15 ∷ 1 ∷ [] }
    -- E4 count 0: 64 ticks give spoke 0, turns 0; 65 spoke 1, turns 1; 128 spoke 0, turns 1
    ∷ record { shown = spoke_and_turns (begun 0 64); seen = 0 ∷ 0 ∷ [] }
    ∷ record { shown = spoke_and_turns (begun 0 65); seen = 1 ∷ 1 ∷ [] }
    ∷ record { shown = spoke_and_turns (begun 0 128); seen = 0 ∷ 1 ∷ [] }
    -- E5 count 4,294,967,295, one tick: the next makes 0 and brings timer 0 due
    ∷ record { shown = count_and_due (begun 4294967295 1); seen = 0 ∷ 0 ∷ [] }
    -- E2, E3, E5 to E12
    ∷ table
