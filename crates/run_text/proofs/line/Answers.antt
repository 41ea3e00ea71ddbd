-- `line` meets its contract: each call by its own, and the law that the bytes are those of the line. Assumes nothing.
use Prim.Native.Nat.{◌<◌, ◌^◌}
use native.Mathlib.Omega.{arith}
use Rattle.run_text.proofs.Putting.{line_put, line_fits}
use Rattle.run_text.proofs.line.Goals as goal

pub returns : goal.returns
returns c =
    let number : c.args.answer.number < 256 = omega arith in
    let told : c.args.answer.given < 65536 = omega arith in
    let running : c.args.answer.running < 256 = omega arith in
    let n : c.args.n < 2 ^ 64 = omega (arith, c.ranges.n) in (
      rw (c.put_number.ensures, c.put-first.ensures, c.put_number-number.ensures, c.put-second.ensures, c.put_number-given.ensures, c.put-third.ensures, c.put_number-running.ensures, c.put-end.ensures, c.empty.ensures)
          (line_put c.args.n c.args.answer n number told running),
      line_fits c.args.n c.args.answer n number told running,
    )
