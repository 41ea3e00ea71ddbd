-- The scheduler in the array after signals, with how many threads left.
-- Assumes nothing.
use Rattle.std.specs.Prelude.{ℕ, List}
use Rattle.value_effects.specs.declared.Signalled.{Signalled}
use Rattle.place_tables.specs.Cells.{scheduler_in}

-- both as one
abbrev pub signalled_in : List ℕ → ℕ → Signalled
signalled_in k left = record { scheduler = scheduler_in k; left = left }
