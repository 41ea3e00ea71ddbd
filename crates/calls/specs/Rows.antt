-- A call row: 8 bytes, code, a, b, kind, and a 32-bit number v, low byte first. When it is of right form, and which call it is then.
-- Assumes nothing.
use Rattle.std.specs.Prelude.{Option, Some, None}
use Rattle.std.specs.Prelude.{ℕ, ◌+◌, ◌*◌, Bool, true, false, cond, ◌&&◌, ◌||◌, List, [], ◌∷◌, get_or, eqb, leb}
use Rattle.calls.specs.declared.Call.{Call}
use Rattle.calls.specs.declared.Call.TheVariants.{Start, CreateThread, CreateMutex, CreateCondition, CreateTimer, Acquire, Release, Wait, Signal, Broadcast, StartTimer, StopTimer, Tick}
use Rattle.calls.specs.declared.Kind.{Kind}
use Rattle.calls.specs.declared.Kind.TheVariants.{OneShot, Periodic}
use Rattle.calls.specs.declared.Named.{Named}

-- the byte at place i of a row
abbrev pub byte : List ℕ → ℕ → ℕ
byte row i = get_or row i 0

-- the number v
abbrev pub v_of : List ℕ → ℕ
v_of row = byte row 4 + byte row 5 * 256 + byte row 6 * 65536 + byte row 7 * 16777216

-- what a call names of a, b, kind and v
abbrev pub names_none : Named
names_none = record { a = false; b = false; kind = false; v = false }

-- a
abbrev pub names_a : Named
names_a = record { a = true; b = false; kind = false; v = false }

-- a and b
abbrev pub names_ab : Named
names_ab = record { a = true; b = true; kind = false; v = false }

-- all four
abbrev pub names_all : Named
names_all = record { a = true; b = true; kind = true; v = true }

-- fields not named are 0, and kind is 0 or 1
unfoldable pub fits : Named → List ℕ → Bool
fits n row =
    (n.a || eqb (byte row 1) 0) && (n.b || eqb (byte row 2) 0) && (n.kind || eqb (byte row 3) 0) && leb (byte row 3) 1
    && (n.v || eqb (v_of row) 0)

-- the call, if the fields that it does not name are 0
unfoldable pub taken : Named → Call → List ℕ → Option Call
taken n call row = cond (fits n row) (Some call) None

-- kind 0 one-shot or 1 periodic
unfoldable pub kind_of : ℕ → Kind
kind_of k = cond (eqb k 0) OneShot Periodic

-- the call of each code from 0, with its fields; 0 is no code
unfoldable pub by_code : List ℕ → List (Option Call)
by_code row =
    None
    ∷ taken names_none Start row
    ∷ taken names_a (CreateThread (byte row 1)) row
    ∷ taken names_a (CreateMutex (byte row 1)) row
    ∷ taken names_none CreateCondition row
    ∷ taken names_none CreateTimer row
    ∷ taken names_a (Acquire (byte row 1)) row
    ∷ taken names_a (Release (byte row 1)) row
    ∷ taken names_ab (Wait (byte row 1) (byte row 2)) row
    ∷ taken names_a (Signal (byte row 1)) row
    ∷ taken names_a (Broadcast (byte row 1)) row
    ∷ taken names_all (StartTimer (byte row 1) (byte row 2) (kind_of (byte row 3)) (record { 0 = v_of row })) row
    ∷ taken names_a (StopTimer (byte row 1)) row
    ∷ taken names_none Tick row
    ∷ []

-- a row taken apart: code not 1 to 13, an unused field not 0 and kind above 1 are of wrong form, and nothing else is
unfoldable pub decoded : List ℕ → Option Call
decoded row = get_or (by_code row) (byte row 0) None
