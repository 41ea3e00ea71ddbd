-- A row of 8 bytes for each call, so that whatever is said of calls is said of rows too.
-- Assumes nothing.
use Rattle.std.specs.Prelude.{ℕ, ◌/◌, ◌%◌, ◌<◌, ◌≡◌, List, [], ◌∷◌, length, get_or}
use Rattle.calls.specs.declared.Call.{Call}
use Rattle.calls.specs.declared.Call.TheVariants.{Start, CreateThread, CreateMutex, CreateCondition, CreateTimer, Acquire, Release, Wait, Signal, Broadcast, StartTimer, StopTimer, Tick}
use Rattle.calls.specs.declared.Kind.{Kind}
use Rattle.calls.specs.declared.Kind.TheVariants.{OneShot, Periodic}

-- 8 bytes
pub record IsRow (row : List ℕ) : Type 0 where
  pub eight : length row ≡ 8
  pub bytes : (i : ℕ) → get_or row i 0 < 256

-- a call of the code: its numbers are bytes, and v has 32 bits
abbrev pub InRange : Call → Type 0
InRange Start = Unit {0}
InRange (CreateThread base) = base < 256
InRange (CreateMutex ceiling) = ceiling < 256
InRange CreateCondition = Unit {0}
InRange CreateTimer = Unit {0}
InRange (Acquire m) = m < 256
InRange (Release m) = m < 256
InRange (Wait c m) = (c < 256) × (m < 256)
InRange (Signal c) = c < 256
InRange (Broadcast c) = c < 256
InRange (StartTimer i c kind v) = (i < 256) × (c < 256) × (v.0 < 4294967296)
InRange (StopTimer i) = i < 256
InRange Tick = Unit {0}

-- kind 0 one-shot or 1 periodic
abbrev pub kind_number : Kind → ℕ
kind_number OneShot = 0
kind_number Periodic = 1

-- code, a, b, kind, and v of 32 bits, low byte first
abbrev pub row_with : ℕ → ℕ → ℕ → ℕ → ℕ → List ℕ
row_with code a b kind v = code ∷ a ∷ b ∷ kind ∷ v % 256 ∷ v / 256 % 256 ∷ v / 65536 % 256 ∷ v / 16777216 ∷ []

-- the row of a call; fields not named are 0
unfoldable pub row_of : Call → List ℕ
row_of Start = row_with 1 0 0 0 0
row_of (CreateThread base) = row_with 2 base 0 0 0
row_of (CreateMutex ceiling) = row_with 3 ceiling 0 0 0
row_of CreateCondition = row_with 4 0 0 0 0
row_of CreateTimer = row_with 5 0 0 0 0
row_of (Acquire m) = row_with 6 m 0 0 0
row_of (Release m) = row_with 7 m 0 0 0
row_of (Wait c m) = row_with 8 c m 0 0
row_of (Signal c) = row_with 9 c 0 0 0
row_of (Broadcast c) = row_with 10 c 0 0 0
row_of (StartTimer i c kind v) = row_with 11 i c (kind_number kind) v.0
row_of (StopTimer i) = row_with 12 i 0 0 0
row_of Tick = row_with 13 0 0 0 0
