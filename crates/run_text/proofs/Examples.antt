-- Document 01's run, as one table: the lines of its three rows.
-- Assumes nothing.
use mathlib.Core.Path.{◌≡◌, refl}
use mathlib.Core.List.{[], ◌∷◌}
use Rattle.run_text.specs.Texts.{digits_in, digits, line_bytes}

-- `1 0 1 255`, `2 0 255 1` and `3 0 0 1`
pub run_of_three :
    (line_bytes 1 (record { number = 0; given = 1; running = 255 })
    ∷ line_bytes 2 (record { number = 0; given = 255; running = 1 })
    ∷ line_bytes 3 (record { number = 0; given = 0; running = 1 }) ∷ [])
    ≡ ((49 ∷ 32 ∷ 48 ∷ 32 ∷ 49 ∷ 32 ∷ 50 ∷ 53 ∷ 53 ∷ 10 ∷ [])
    ∷ (50 ∷ 32 ∷ 48 ∷ 32 ∷ 50 ∷ 53 ∷ 53 ∷ 32 ∷ 49 ∷ 10 ∷ [])
    ∷ (51 ∷ 32 ∷ 48 ∷ 32 ∷ 48 ∷ 32 ∷ 49 ∷ 10 ∷ []) ∷ [])
unfolding line_bytes digits digits_in
run_of_three = refl
