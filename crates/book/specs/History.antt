-- What a run of calls and their answers tells: the accepted ticks, the ids that were given; which timers a tick expires, and what a stop gives.
-- Assumes nothing.
use Rattle.std.specs.Prelude.{Option, Some, None}
use Rattle.std.specs.Prelude.{ℕ, zero, suc, ◌+◌, ◌-◌, ◌≡◌, Bool, false, cond, ◌&&◌, List, [], ◌∷◌, map, length, eqb}
use Rattle.calls.specs.declared.Answer.{Answer}
use Rattle.calls.specs.declared.Call.{Call}
use Rattle.calls.specs.declared.Call.TheVariants.{Start, CreateThread, CreateMutex, CreateCondition, CreateTimer, Acquire, Release, Wait, Signal, Broadcast, StartTimer, StopTimer, Tick}
use Rattle.rules.specs.State.{periodic, State, Timer, timer}
use Rattle.rules.specs.Effects.{is_due, signalled_each, effect}
use Rattle.rules.specs.Sound.{mem}
use Rattle.rules.specs.Step.{accepted}

-- ---- which call it is

-- document 01's number of a call
unfoldable pub call_number : Call → ℕ
call_number Start = 1
call_number (CreateThread base) = 2
call_number (CreateMutex ceiling) = 3
call_number CreateCondition = 4
call_number CreateTimer = 5
call_number (Acquire m) = 6
call_number (Release m) = 7
call_number (Wait c m) = 8
call_number (Signal c) = 9
call_number (Broadcast c) = 10
call_number (StartTimer i c kind v) = 11
call_number (StopTimer i) = 12
call_number Tick = 13

-- whether a row is an accepted call of this number
abbrev pub accepts : ℕ → Option Call → Answer → Bool
accepts n None answer = false
accepts n (Some call) answer = eqb (call_number call) n && eqb answer.number 0

-- ---- ticks and timers

-- how many accepted ticks there are among some rows and their answers
unfoldable pub ticks_taken : List (Option Call) → List Answer → ℕ
ticks_taken [] answers = 0
ticks_taken (row ∷ rows) [] = 0
ticks_taken (row ∷ rows) (answer ∷ answers) = cond (accepts 13 row answer) 1 0 + ticks_taken rows answers

-- no row stops timer i
abbrev pub NeverStops : ℕ → List (Option Call) → Type 0
NeverStops i [] = Unit {0}
NeverStops i (row ∷ rows) = (row ≡ Some (StopTimer i) → ⊥) × NeverStops i rows

-- the ids of the timers of a list that are due at the next tick, in order, where the first has id i
unfoldable pub due_from : ℕ → List Timer → List ℕ
due_from i [] = []
due_from i (x ∷ xs) = cond (is_due x) (i ∷ due_from (suc i) xs) (due_from (suc i) xs)

-- the timers that the next tick expires, in order of id
abbrev pub expiring : State → List ℕ
expiring s = due_from 0 s.timers

-- whether timer i, which signals condition variable c, is among those that the next tick expires
pub record Expires (s : State) (i c : ℕ) (due : Bool) : Type 0 where
  pub among : mem i (expiring s) ≡ due
  pub condition : (timer s.timers i).condition ≡ c

-- what an accepted tick makes of the timers that it expires: given counts them, and each signals its condition variable, in order of id
pub record TickExpires (s : State) : Type 0 where
  pub counted : (accepted s Tick).answer.given ≡ length (expiring s)
  pub signals : (effect s Tick).scheduler ≡ signalled_each s.scheduler (map (λ i. (timer s.timers i).condition) (expiring s))

-- a running periodic timer that keeps n, signals c and has this many ticks left
abbrev pub repeating : ℕ → ℕ → ℕ → Timer
repeating n c left = record { state = periodic; condition = c; length = n; left = left }

-- k ticks after it last expired it has n less k left
abbrev pub phase : ℕ → ℕ → ℕ → Timer
phase n c k = repeating n c (n - k)

-- a stop was done, and gave this many ticks
pub record GivesTicks (answer : Answer) (many : ℕ) : Type 0 where
  pub done : answer.number ≡ 0
  pub given : answer.given ≡ many

-- ---- ids

-- the tables of what is created
pub data Table : Type 0 where
  threads mutexes conditions timers : Table

-- the call that creates in a table
abbrev pub creator : Table → ℕ
creator threads = 2
creator mutexes = 3
creator conditions = 4
creator timers = 5

-- how many a table has
abbrev pub size : Table → State → ℕ
size threads s = length s.scheduler.rows.threads
size mutexes s = length s.scheduler.rows.mutexes
size conditions s = length s.scheduler.rows.ties
size timers s = length s.timers

-- the ids that were given for a table, in order
unfoldable pub ids_given : Table → List (Option Call) → List Answer → List ℕ
ids_given x [] answers = []
ids_given x (row ∷ rows) [] = []
ids_given x (row ∷ rows) (answer ∷ answers) = cond (accepts (creator x) row answer) (answer.given ∷ ids_given x rows answers) (ids_given x rows answers)

-- n, n + 1 and so on, as many as asked
unfoldable pub up_from : ℕ → ℕ → List ℕ
up_from n zero = []
up_from n (suc many) = n ∷ up_from (suc n) many
