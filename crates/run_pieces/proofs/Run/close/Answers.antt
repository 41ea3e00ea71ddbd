-- `Run::close` meets its contract: the one line of a refused run, else the line of a row that is cut short behind what stands first. Assumes nothing.
use Prim.Native.Nat.{◌^◌, ◌<◌}
use mathlib.Core.Path.{◌≡◌}
use lib.ListN.{length}
use borrow.Author.Rules.{rules}
use Rattle.run_pieces.proofs.Feeding.{refused_closed, going_closed}
use Rattle.run_pieces.proofs.Run.close.Goals as goal

pub returns-then-self-ne0 : goal.returns-then-self-ne0
returns-then-self-ne0 c =
    let given = c.args in
    let byte : given.self.refused < 256 = search rules in
    let opened = c.open-used in
    let size : length given.output.now ≡ 65536 = search rules in
    refused_closed given.self given.output.now opened.result opened.new.output size byte opened.ensures.0 opened.ensures.1 c.if-self-ne0.true

pub returns : goal.returns
returns c =
    let given = c.args in
    let byte : given.self.refused < 256 = search rules in
    let low : given.self.last < 2 ^ 64 = search rules in
    let opened = c.open-used in
    let size : length given.output.now ≡ 65536 = search rules in
    let cut = c.cut-made in
    going_closed given.self given.output.now opened.result opened.new.output size byte opened.ensures.0 opened.ensures.1
    c.if-self-ne0.false low cut.result cut.new.output cut.ensures.0 cut.ensures.1 cut.ensures.2
