-- There are 16 rows of mutexes, and a number below 16 finds its own.
-- Assumes nothing.
use Prim.Native.Nat.{ℕ, ◌<◌}
use mathlib.Core.Path.{◌≡◌, ap}
use mathlib.Core.List.{List}
use native.Mathlib.Omega.{arith}
use lib.ListN.{length, get_or}
use Rattle.laws.proofs.Lists.{length_tabulate}
use Rattle.value_effects.specs.declared.Scheduler.{Scheduler}
use Rattle.value_effects.specs.Effects.{no_mutex, mutex_of}
use Rattle.place_tables.specs.Cells.{mutex_in, scheduler_in}

pub sixteen : (k : List ℕ) → length (scheduler_in k).mutexes ≡ 16
unfolding scheduler_in
sixteen k = length_tabulate 16 (mutex_in k)

pub own_row : (x : Scheduler) (i : ℕ) → i < 16 → mutex_of x i ≡ get_or x.mutexes i no_mutex
own_row x i l = ap (λ j. get_or x.mutexes j no_mutex) (omega arith)
