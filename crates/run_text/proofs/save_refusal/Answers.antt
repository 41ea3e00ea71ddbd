-- `save_refusal` meets its contract: each call by its own, and the law that the bytes are those of the line. Assumes nothing.
use native.Mathlib.Omega.{arith}
use Rattle.run_text.specs.Texts.{unsaved_bytes, save_refusal_bytes}
use Rattle.run_text.proofs.Putting.{refusal_put}
use Rattle.run_text.proofs.save_refusal.Goals as goal

pub returns : goal.returns
unfolding save_refusal_bytes
returns c =
    rw (c.put_bytes.ensures, c.put_number-digits.ensures, c.put-end.ensures, c.empty.ensures)
    (refusal_put unsaved_bytes c.args.answer (omega arith) (omega (arith, c.ranges.answer)))
