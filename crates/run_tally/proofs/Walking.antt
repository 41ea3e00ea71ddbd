-- One row more, the rows once more, and the sum from boot.
-- Assumes nothing.
use Rattle.std.proofs.Common.{◌≡◌, ℕ, suc, ◌+◌, ◌-◌, ◌*◌, ◌/◌, ◌<◌, ◌≤◌, List, length, refl, ap, ◌∙◌, arith}
use Rattle.rules.specs.State.{boot}
use Rattle.value_engine.specs.declared.Engine.{Engine}
use Rattle.value_engine.specs.declared.Stepped.{Stepped}
use Rattle.value_engine.specs.Stands.{engine_of}
use Rattle.run_rows.specs.Rows.{row_model, row_at}
use Rattle.run_rows.specs.Many.{Reached, after_rows}
use Rattle.run_rows.proofs.Many.{rows_from, turned}
use Rattle.run_tally.specs.Sums.{add_weight, tally_row, over_rows, repeated, sum_of}

-- one row more, and its answer added
pub row_added : (i : ℕ) (bytes row : List ℕ) (x : Reached ℕ) (s : Stepped) (sum : ℕ) → i < length bytes / 8 → row ≡ row_at bytes (i * 8) → s ≡ row_model x.engine row → sum ≡ add_weight x.made s.answer
    → after_rows add_weight (record { engine = s.engine; made = sum }) (rows_from (i + 1) bytes) ≡ after_rows add_weight x (rows_from i bytes)
row_added i bytes row x s sum less read done added = turned add_weight i bytes row x (record { engine = s.engine; made = sum }) s less read done (λ j. record { engine = s.engine; made = added j })

-- the same, where the row is done with its answer added
pub row_tallied : (i : ℕ) (bytes row : List ℕ) (x r : Reached ℕ) → i < length bytes / 8 → row ≡ row_at bytes (i * 8) → r ≡ tally_row x row
    → after_rows add_weight r (rows_from (i + 1) bytes) ≡ after_rows add_weight x (rows_from i bytes)
row_tallied i bytes row x r less read done = turned add_weight i bytes row x r (row_model x.engine row) less read refl done

-- after i turns of n the rows once more
pub repeat_on : (n i : ℕ) (r : Reached ℕ) (rows : List ℕ) → i < n → repeated (n - i) r rows ≡ repeated (n - (i + 1)) (over_rows r rows) rows
unfolding repeated
repeat_on n i r rows h =
    let left : n - i ≡ suc (n - (i + 1)) = omega arith in
    rw left

-- after all turns the rows are not left once more
pub repeat_end : (n i : ℕ) (r : Reached ℕ) (rows : List ℕ) → n ≤ i → repeated (n - i) r rows ≡ r
unfolding repeated
repeat_end n i r rows h =
    let none : n - i ≡ 0 = omega arith in
    rw none

-- from boot, the setup once, and then the rows so many times
pub summed : (setup rows : List ℕ) (repeats : ℕ) (x y : Engine) (sum : ℕ) (r : Reached ℕ) → x ≡ engine_of boot → record { engine = y; made = sum } ≡ over_rows (record { engine = x; made = 0 }) setup
    → r ≡ repeated repeats (record { engine = y; made = 0 }) rows → r.made ≡ sum_of setup rows repeats
unfolding sum_of
summed setup rows repeats x y sum r begun ready ended =
    let e : y ≡ (over_rows (record { engine = engine_of boot; made = 0 }) setup).engine
    = ap (λ (z : Reached ℕ). z.engine) ready ∙ ap (λ z. (over_rows (record { engine = z; made = 0 }) setup).engine) begun in
    ap (λ (z : Reached ℕ). z.made) (ended ∙ ap (λ z. repeated repeats (record { engine = z; made = 0 }) rows) e)
