-- `open` meets its contract: nothing, the heading, or the line of a refused start. Assumes nothing.
use mathlib.Core.Path.{◌≡◌}
use borrow.Author.Tests.{eq-eqb, ne_eqb}
use Rattle.run_text.specs.Texts.{heading_bytes, refusal_bytes}
use Rattle.run_text.proofs.Collecting.{nothing_laid}
use Rattle.run_pieces.specs.Pieces.{opening}
use Rattle.run_pieces.proofs.Laying.{opening_laid}
use Rattle.run_pieces.proofs.open.Goals as goal

pub returns-then-opened : goal.returns-then-opened
unfolding opening
returns-then-opened c = rw c.if-opened.true (nothing_laid c.args.output.now 0)

pub returns-then-refused-eq0 : goal.returns-then-refused-eq0
unfolding opening
returns-then-refused-eq0 c =
    let given = c.args in
    let is : opening given.opened given.refused ≡ heading_bytes = rw (c.if-opened.false, eq-eqb _ _ c.if-refused-eq0.true) in
    let laid = c.collect.ensures in
    opening_laid given.opened given.refused heading_bytes given.output.now _ _ _ is c.heading.ensures laid.0 laid.1

pub returns : goal.returns
unfolding opening
returns c =
    let given = c.args in
    let is : opening given.opened given.refused ≡ refusal_bytes given.refused = rw (c.if-opened.false, ne_eqb _ _ c.if-refused-eq0.false) in
    let laid = c.collect-2.ensures in
    opening_laid given.opened given.refused (refusal_bytes given.refused) given.output.now _ _ _ is c.refusal.ensures laid.0 laid.1
