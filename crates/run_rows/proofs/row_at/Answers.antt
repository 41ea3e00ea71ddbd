-- `row_at` meets its contract: eight bytes are there, or not. Assumes nothing.
use native.Mathlib.Omega.{arith}
use Rattle.run_rows.proofs.Walking.{eight, not_eight}
use Rattle.run_rows.proofs.row_at.Goals as goal

pub returns-then-bytes-lt-ROW : goal.returns-then-bytes-lt-ROW
returns-then-bytes-lt-ROW c = not_eight c.args.bytes.now c.args.at (omega arith)

pub returns-then-bytes-at : goal.returns-then-bytes-at
returns-then-bytes-at c =
    not_eight c.args.bytes.now c.args.at (omega arith)

pub returns : goal.returns
returns c =
    eight c.args.bytes.now c.args.at (omega (arith, c.if-bytes-lt-ROW.false, c.if-bytes-at.false))
