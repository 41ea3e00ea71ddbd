-- Every call is the decoding of some row: the row of a call is 8 bytes, and is taken apart into that call.
-- Assumes nothing.
use Rattle.std.specs.Prelude.{Some}
use Prim.Native.Nat.{ℕ, zero, suc, ◌/◌, ◌%◌, ◌<◌}
use mathlib.Core.Path.{◌≡◌, refl, ap}
use mathlib.Core.List.{List, [], ◌∷◌}
use native.Mathlib.Omega.{arith}
use lib.ListN.{get_or}
use Rattle.calls.specs.declared.Call.{Call}
use Rattle.calls.specs.declared.Call.TheVariants.{Start, CreateThread, CreateMutex, CreateCondition, CreateTimer, Acquire, Release, Wait, Signal, Broadcast, StartTimer, StopTimer, Tick}
use Rattle.calls.specs.declared.Kind.{Kind}
use Rattle.calls.specs.declared.Kind.TheVariants.{OneShot, Periodic}
use Rattle.calls.specs.Rows.{v_of, fits, taken, kind_of, by_code, decoded}
use Rattle.calls.specs.Coding.{IsRow, InRange, kind_number, row_with, row_of}

-- a list of bytes
record Bytes (l : List ℕ) : Type 0 where
  at : (i : ℕ) → get_or l i 0 < 256

-- one byte more in front
byte_and : {x : ℕ} {l : List ℕ} → x < 256 → Bytes l → Bytes (x ∷ l)
byte_and {x} {l} p q = record { at = go }
  where
    go : (i : ℕ) → get_or (x ∷ l) i 0 < 256
    go zero = p
    go (suc i) = q.at i

no_bytes : Bytes []
no_bytes = record { at = λ i. omega arith }

-- a row of bytes, v of 32 bits
row_bytes : (code a b kind v : ℕ) → code < 256 → a < 256 → b < 256 → kind < 256 → v < 4294967296 → IsRow (row_with code a b kind v)
row_bytes code a b kind v p q r s t =
    let low : v % 256 < 256 = omega arith in
    let second : v / 256 % 256 < 256 = omega arith in
    let third : v / 65536 % 256 < 256 = omega arith in
    let high : v / 16777216 < 256 = omega arith in
    let all : Bytes (row_with code a b kind v) = byte_and p (byte_and q (byte_and r (byte_and s (byte_and low (byte_and second (byte_and third (byte_and high no_bytes))))))) in
    record { eight = refl; bytes = all.at }

-- the bytes of v are v again
v_again : (code a b kind v : ℕ) → v_of (row_with code a b kind v) ≡ v
v_again code a b kind v = omega arith

-- a start of a timer names all fields
start_again : (i c : ℕ) (kind : Kind) (v : ℕ) → decoded (row_with 11 i c (kind_number kind) v) ≡ Some (StartTimer i c kind (record { 0 = v }))
unfolding decoded by_code taken fits kind_of
start_again i c OneShot v = ap (λ n. Some (StartTimer i c OneShot (record { 0 = n }))) (v_again 11 i c 0 v)
start_again i c Periodic v = ap (λ n. Some (StartTimer i c Periodic (record { 0 = n }))) (v_again 11 i c 1 v)

-- the row of a call is taken apart into that call
pub decoded_again : (call : Call) → decoded (row_of call) ≡ Some call
unfolding decoded by_code taken fits row_of
decoded_again Start = refl
decoded_again (CreateThread base) = refl
decoded_again (CreateMutex ceiling) = refl
decoded_again CreateCondition = refl
decoded_again CreateTimer = refl
decoded_again (Acquire m) = refl
decoded_again (Release m) = refl
decoded_again (Wait c m) = refl
decoded_again (Signal c) = refl
decoded_again (Broadcast c) = refl
decoded_again (StartTimer i c kind v) = start_again i c kind v.0
decoded_again (StopTimer i) = refl
decoded_again Tick = refl

-- and is 8 bytes, for a call whose numbers are bytes and whose v has 32 bits
pub call_row : (call : Call) → InRange call → IsRow (row_of call)
unfolding row_of
call_row Start r = row_bytes 1 0 0 0 0 (omega arith) (omega arith) (omega arith) (omega arith) (omega arith)
call_row (CreateThread base) r = row_bytes 2 base 0 0 0 (omega arith) r (omega arith) (omega arith) (omega arith)
call_row (CreateMutex ceiling) r = row_bytes 3 ceiling 0 0 0 (omega arith) r (omega arith) (omega arith) (omega arith)
call_row CreateCondition r = row_bytes 4 0 0 0 0 (omega arith) (omega arith) (omega arith) (omega arith) (omega arith)
call_row CreateTimer r = row_bytes 5 0 0 0 0 (omega arith) (omega arith) (omega arith) (omega arith) (omega arith)
call_row (Acquire m) r = row_bytes 6 m 0 0 0 (omega arith) r (omega arith) (omega arith) (omega arith)
call_row (Release m) r = row_bytes 7 m 0 0 0 (omega arith) r (omega arith) (omega arith) (omega arith)
call_row (Wait c m) r = row_bytes 8 c m 0 0 (omega arith) r.0 r.1 (omega arith) (omega arith)
call_row (Signal c) r = row_bytes 9 c 0 0 0 (omega arith) r (omega arith) (omega arith) (omega arith)
call_row (Broadcast c) r = row_bytes 10 c 0 0 0 (omega arith) r (omega arith) (omega arith) (omega arith)
call_row (StartTimer i c kind v) r = row_bytes 11 i c (kind_number kind) v.0 (omega arith) r.0 r.1 (kind_byte kind) r.2
  where
    kind_byte : (k : Kind) → kind_number k < 256
    kind_byte OneShot = omega arith
    kind_byte Periodic = omega arith
call_row (StopTimer i) r = row_bytes 12 i 0 0 0 (omega arith) r (omega arith) (omega arith) (omega arith)
call_row Tick r = row_bytes 13 0 0 0 0 (omega arith) (omega arith) (omega arith) (omega arith) (omega arith)

-- every call is the decoding of some row
pub every_call_has_a_row : (call : Call) → InRange call → (row : List ℕ) × IsRow row × (decoded row ≡ Some call)
every_call_has_a_row call r = (row_of call, call_row call r, decoded_again call)
