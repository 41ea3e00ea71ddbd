-- `put_number` meets its contract. The invariant: the digits that are left, put in front, give what the whole gives. The measure is the rest. Assumes nothing.
use mathlib.Core.Path.{◌≡◌}
use Rattle.run_text.specs.Texts.{put_all, digits}
use Rattle.run_text.proofs.put_number.Given as goal

abbrev pub invariant-loop-rest : goal.invariant-loop-rest
invariant-loop-rest l = put_all l.made (digits l.rest) ≡ put_all l.initial.made (digits l.n)

abbrev pub decreases-loop-rest : goal.decreases-loop-rest
decreases-loop-rest l = l.rest
