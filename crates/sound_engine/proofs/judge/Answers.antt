-- `judge` meets its contract: the page decides, or the tables that are built from it. Assumes nothing.
use mathlib.Core.Path.{◌≡◌, sym, ap, ◌∙◌, subst}
use mathlib.Core.Logic.{◌↔◌}
use mathlib.Core.Bool.{true, ◌&&◌}
use Rattle.rules.specs.Page.{page_formed, page_sound}
use Rattle.place_step.proofs.Apart.{apart}
use Rattle.page.specs.Says.{said}
use Rattle.page_describing.specs.Describing.{describe_model}
use Rattle.sound_engine.specs.Rebuilding.{Follows}
use Rattle.sound_engine.proofs.Rebuilding.{page_refuses, tables_tell}
use Rattle.sound_engine.proofs.judge.Goals as goal

pub returns-then-not-right : goal.returns-then-not-right
returns-then-not-right c =
    let x = c.args.engine in
    let whole = apart x _ _ _ _ c.cells_of-cells.ensures c.clock_words-clock.ensures c.wheel_words-wheel.ensures c.counts_of-counts.ensures in
    let page = c.describe-page.ensures.always ∙ ap describe_model whole in
    let test = ap (λ p. page_formed (said p) && page_sound (said p)) (sym page) ∙ sym c.sound-right.ensures in
    record { sound = page_refuses x (test ∙ c.if-not-right.true); ok = tt; err = page }

pub returns-then-follows : goal.returns-then-follows
returns-then-follows c =
    let x = c.args.engine in
    let whole = apart x _ _ _ _ c.cells_of-cells.ensures c.clock_words-clock.ensures c.wheel_words-wheel.ensures c.counts_of-counts.ensures in
    let page = c.describe-page.ensures.always ∙ ap describe_model whole in
    let test = ap (λ p. page_formed (said p) && page_sound (said p)) (sym page) ∙ sym c.sound-right.ensures in
    let told = tables_tell x _ _ _ _ _ c.cells_of-cells.ensures c.clock_words-clock.ensures c.wheel_words-wheel.ensures page (test ∙ c.if-not-right.false) c.rebuilt-follows.ensures in
    record { sound = subst (λ b. (b ≡ true) ↔ Follows x) c.if-follows.true told; ok = page; err = tt }

pub returns-else-follows : goal.returns-else-follows
returns-else-follows c =
    let x = c.args.engine in
    let whole = apart x _ _ _ _ c.cells_of-cells.ensures c.clock_words-clock.ensures c.wheel_words-wheel.ensures c.counts_of-counts.ensures in
    let page = c.describe-page.ensures.always ∙ ap describe_model whole in
    let test = ap (λ p. page_formed (said p) && page_sound (said p)) (sym page) ∙ sym c.sound-right.ensures in
    let told = tables_tell x _ _ _ _ _ c.cells_of-cells.ensures c.clock_words-clock.ensures c.wheel_words-wheel.ensures page (test ∙ c.if-not-right.false) c.rebuilt-follows.ensures in
    record { sound = subst (λ b. (b ≡ true) ↔ Follows x) c.if-follows.false told; ok = tt; err = page }
