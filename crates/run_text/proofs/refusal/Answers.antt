-- `refusal` meets its contract: each call by its own, and the law that the bytes are those of the line. Assumes nothing.
use native.Mathlib.Omega.{arith}
use Rattle.run_text.specs.Texts.{refused_bytes, refusal_bytes}
use Rattle.run_text.proofs.Putting.{refusal_put}
use Rattle.run_text.proofs.refusal.Goals as goal

pub returns : goal.returns
unfolding refusal_bytes
returns c =
    rw (c.put_bytes.ensures, c.put_number-number.ensures, c.put-end.ensures, c.empty.ensures)
    (refusal_put refused_bytes c.args.answer (omega arith) (omega (arith, c.ranges.answer)))
