-- `lay` meets its contract: the bytes are copied to the place after the used part, where there is room. Assumes nothing.
use native.Mathlib.Omega.{arith}
use Rattle.std.proofs.Common.{rules}
use lib.Seq.{take-length}
use Rattle.run_text.proofs.Collecting.{no_room, has_room}
use Rattle.run_text.proofs.lay.Goals as goal

pub returns-then-output-size : goal.returns-then-output-size
returns-then-output-size c = no_room c.args.output.now c.args.used c.args.bytes.now (omega arith)

pub returns : goal.returns
returns c =
    let room = has_room c.args.output.now c.args.used c.args.bytes.now (omega arith) in
    (room.0, search (rules, room, take-length))
