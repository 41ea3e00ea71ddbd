-- Loading a record and saving a state: the checks in the document's order, and what a refusal leaves.
-- Assumes nothing.
use Rattle.std.specs.Prelude.{ℕ, cond, not, List, ◌++◌, length, drop, ltb}
use Rattle.calls.specs.declared.Verdict.{Verdict}
use Rattle.calls.specs.declared.Verdict.TheVariants.{Done, NotSound, WrongRecord, BufferShort}
use Rattle.rules.specs.State.{State, boot}
use Rattle.rules.specs.Sound.{sound}
use Rattle.rules.specs.Page.{described_by, page_sound, page_of}
use Rattle.record_bytes.specs.Record.{record_of, page_in, formed}

-- what a load gives
pub record Loaded : Type 0 where
  pub answer : Verdict
  pub state : State

-- refused, it returns the boot state
abbrev pub refused_load : Verdict → Loaded
refused_load v = record { answer = v; state = boot }

-- load: 15, then 1
unfoldable pub load : List ℕ → Loaded
load bytes =
    cond (not (formed bytes)) (refused_load WrongRecord)
    (cond (not (page_sound (page_in bytes))) (refused_load NotSound)
    (record { answer = Done; state = described_by (page_in bytes) }))

-- what a save gives: its answer, the length written, and the buffer afterwards
pub record Saved : Type 0 where
  pub answer : Verdict
  pub length : ℕ
  pub buffer : List ℕ

-- refused, it writes nothing and answers length 0
abbrev pub refused_save : Verdict → List ℕ → Saved
refused_save v buffer = record { answer = v; length = 0; buffer = buffer }

-- the record of a state
abbrev pub saved : State → List ℕ
saved s = record_of (page_of s)

-- save: 1, then 16; done, it writes the record first in the buffer, answers its length and leaves the rest
unfoldable pub save : State → List ℕ → Saved
save s buffer =
    cond (not (sound s)) (refused_save NotSound buffer)
    (cond (ltb (length buffer) (length (saved s))) (refused_save BufferShort buffer)
    (record { answer = Done; length = length (saved s); buffer = saved s ++ drop (length (saved s)) buffer }))
