-- Words filled for a wheel with every timer stopped: the spokes of the timers are written one after the other, then the position.
-- Assumes nothing.
use Prim.Native.Nat.{ℕ, ◌+◌, ◌%◌, ◌<◌, ◌≤◌}
use mathlib.Core.Path.{◌≡◌, refl, ap, ◌∙◌}
use mathlib.Core.List.{List}
use lib.ListN.{set, replicate}
use Rattle.laws.specs.Lists.{tabulate}
use Rattle.laws.specs.Bits.{word_of}
use Rattle.laws.specs.Filling.{filled}
use Rattle.laws.proofs.Lists.{length_tabulate}
use Rattle.laws.proofs.Filling.{fill_none, fill_next, fill_all}
use Rattle.wheel.specs.Hung.{empty, spoke_of, turns_of, hangs}
use Rattle.wheel.specs.Inside.{Tables, laid, tables_of, words_of}
use Rattle.wheel.proofs.Words.{Sized, spoke_put, position_put}

-- tables with these spokes of the timers, this position, and 0 elsewhere
abbrev idle : List ℕ → ℕ → Tables
idle l p = record { spokes = replicate 64 0; turns = replicate 32 0; spoke = l; position = p }

-- the tables with the spokes of the timers below i written
abbrev pub written : ℕ → Tables
written i = idle (filled 32 (λ j. 255) 0 i) 0

-- they are as long as tables are
sized_written : (i : ℕ) → Sized (written i)
unfolding filled
sized_written i = record { spokes = refl; turns = refl; spoke = length_tabulate 32 _ }

-- at first none is
pub empty_none : replicate 129 0 ≡ laid (written 0)
unfolding laid
empty_none = ap (λ l. laid (idle l 0)) (fill_none 32 (λ j. 255) 0)

-- that of the timer i
pub empty_next : (k : List ℕ) (i : ℕ) → k ≡ laid (written i) → i < 32 → set k (96 + i) 255 ≡ laid (written (i + 1))
empty_next k i e l =
    ap (λ w. set w (96 + i) 255) e
    ∙ spoke_put (written i) (sized_written i) i 255 l
    ∙ ap (λ w. laid (idle w 0)) (fill_next 32 (λ j. 255) 0 i 255 l refl)

-- at last all are, and the position is the tick count mod 64
pub empty_all : (k : List ℕ) (i count : ℕ) → k ≡ laid (written i) → 32 ≤ i → set k 128 (count % 64) ≡ words_of (empty count)
unfolding tables_of tabulate empty word_of hangs spoke_of turns_of
empty_all k i count e h =
    ap (λ w. set w 128 (count % 64)) e
    ∙ position_put (written i) (sized_written i) (count % 64)
    ∙ ap (λ w. laid (idle w (count % 64))) (fill_all 32 (λ j. 255) 0 i h)
