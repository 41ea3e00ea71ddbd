-- `collect` meets its contract: a text that begins past its end is empty, and lays nothing. Assumes nothing.
use mathlib.Core.Path.{◌≡◌}
use native.Mathlib.Omega.{arith}
use lib.ListN.{length}
use Rattle.run_text.proofs.Collecting.{past_end}
use Rattle.run_text.proofs.collect.Goals as goal

pub returns-then-text-gt-TEXT : goal.returns-then-text-gt-TEXT
returns-then-text-gt-TEXT c =
    let whole : length c.args.text.bytes ≡ 48 = omega arith in
    past_end c.args.output.now c.args.used c.args.text.bytes c.args.text.from (omega arith)
