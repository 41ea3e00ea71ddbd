-- `empty_words` meets its contract. The invariant: the spokes of the timers below i are written. Assumes nothing.
use mathlib.Core.Path.{sym, ap, ◌∙◌}
use native.Mathlib.Omega.{arith}
use Rattle.wheel.specs.Inside.{made}
use Rattle.wheel.specs.Promise.Opened.{wheel_is, words_are}
use Rattle.wheel.proofs.Emptying.{empty_none, empty_next, empty_all}
use Rattle.wheel.proofs.empty_words.Goals as goal

pub loop-i-init : goal.loop-i-init
loop-i-init c = (omega arith, empty_none)

pub loop-i-preserved : goal.loop-i-preserved
loop-i-preserved c =
    let l = c.loop-i in
    (omega arith, empty_next _ l.i l.invariant.1 c.loop-i-test.true)

pub returns : goal.returns
returns c =
    let l = c.loop-i in
    let count = c.args.count in
    words_are _ ∙ ap made (empty_all _ l.i count l.invariant.1 c.loop-i-test.false) ∙ sym (wheel_is _)
