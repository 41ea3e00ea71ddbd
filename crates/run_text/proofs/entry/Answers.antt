-- `entry` meets its contract: each call by its own, and the law that the bytes are those of the line. Assumes nothing.
use native.Mathlib.Omega.{arith}
use Rattle.run_text.proofs.Putting.{entry_put}
use Rattle.run_text.proofs.entry.Goals as goal

pub returns : goal.returns
returns c =
    rw (c.put_number.ensures, c.put-first.ensures, c.put_number-number.ensures, c.put-second.ensures, c.put_number-third.ensures, c.put-end.ensures, c.empty.ensures)
    (entry_put c.args.n c.args.answer c.args.length (omega (arith, c.ranges.n)) (omega (arith, c.ranges.answer)) (omega (arith, c.ranges.length)))
