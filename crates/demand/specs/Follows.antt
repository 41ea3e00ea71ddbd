-- What follows for the kernel of the code: who runs, which ids are given, whom a broadcast leaves and what a stop gives, in words of its own rows, counts
-- and answers; and when a timer expires, in words of the one state that the kernel describes. The theorems stand in proofs/Follows.
-- Assumes nothing.
use Rattle.std.specs.Prelude.{ℕ, ◌%◌, ◌<◌, ◌≤◌, ◌≡◌, Bool, true, map, length, get_or}
use Rattle.calls.specs.declared.Call.TheVariants.{Tick}
use Rattle.rules.specs.State.{State, timer}
use Rattle.rules.specs.Effects.{signalled_each, effect}
use Rattle.rules.specs.Sound.{sound}
use Rattle.rules.specs.Step.{after}
use Rattle.value_tables.specs.declared.Thread.{Thread}
use Rattle.book.specs.History.{expiring, Expires, Table, threads, mutexes, conditions, timers}
use Rattle.kernel.specs.declared.Kernel.{Kernel}
use Rattle.kernel.specs.declared.Stepped.{Stepped}
use Rattle.kernel.specs.Kernels.{kernel_of}

-- the row of thread t, read at t mod 32
abbrev pub row_at : Kernel → ℕ → Thread
row_at x t = get_or x.engine.scheduler.threads.rows (t % 32) (record { base = 0; priority = 0; state = 0; object = 0 })

-- while started no ready thread (state 1) stands above the running one
pub record NoneAbove (x : Kernel) : Type 0 where
  pub none : x.engine.started ≡ true → (t : ℕ) → t < x.engine.threads → (row_at x t).state ≡ 1
      → (row_at x t).priority ≤ (row_at x x.engine.scheduler.running).priority

-- how many a table has
abbrev pub size_in : Table → Kernel → ℕ
size_in threads x = x.engine.threads
size_in mutexes x = x.engine.mutexes
size_in conditions x = x.engine.conditions
size_in timers x = x.engine.timercount

-- no thread waits on condition variable c (state 4)
pub record NobodyWaits (x : Kernel) (c : ℕ) : Type 0 where
  pub none : (t : ℕ) → t < x.engine.threads → (row_at x t).state ≡ 4 → (row_at x t).object ≡ c → ⊥

-- an accepted tick of kernel y gives r, and timer i, of condition variable c, is among those that it expires, or is not: given counts those that it
-- expires, and each of them signals its condition variable, in order of id, before the next thread is chosen
pub record TickGives (y : Kernel) (r : Stepped) (i c : ℕ) (due : Bool) : Type 0 where
  pub state : State
  pub right : sound state ≡ true
  pub describes : y ≡ kernel_of state
  pub expires : Expires state i c due
  pub given : r.answer.given ≡ length (expiring state)
  pub signals : (effect state Tick).scheduler ≡ signalled_each state.scheduler (map (λ j. (timer state.timers j).condition) (expiring state))
  pub follows : r.kernel ≡ kernel_of (after state Tick)
