-- `load` meets its contract: wrong form, not sound, or done. Assumes nothing.
use mathlib.Core.Path.{sym, ◌∙◌}
use Rattle.record_reading.proofs.Forms.{told_wrong, told_form, told_page}
use Rattle.record.proofs.Loading.{wrong, unsound, done_load}
use Rattle.record.proofs.load.Goals as goal

pub returns-in_default : goal.returns-in_default
returns-in_default c =
    wrong c.args.bytes.now _ (told_wrong _ (sym c.in_default.is ∙ c.open.ensures)) c.refused.ensures

pub returns-then-not-right : goal.returns-then-not-right
returns-then-not-right c =
    let o = sym c.in-Some.is ∙ c.open.ensures in
    unsound c.args.bytes.now (told_form _ _ o) _ (told_page _ _ o) c.sound-right.ensures _ c.if-not-right.true c.refused-then-not-right.ensures

pub returns : goal.returns
returns c =
    let o = sym c.in-Some.is ∙ c.open.ensures in
    done_load c.args.bytes.now (told_form _ _ o) _ (told_page _ _ o) c.sound-right.ensures c.build-engine.result c.if-not-right.false c.build-engine.ensures.means
