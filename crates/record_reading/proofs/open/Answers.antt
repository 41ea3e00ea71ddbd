-- `open` meets its contract: counts that do not fit, or the tests that decide right form. Assumes nothing.
use Rattle.record_reading.proofs.Forms.{opened_wrong, opened_unformed, opened_right}
use Rattle.record_reading.proofs.open.Goals as goal

pub returns-then-not-fit : goal.returns-then-not-fit
returns-then-not-fit c =
    let a = c.args in
    opened_wrong a.bytes.now c.word_at-threads.ensures c.word_at-mutexes.ensures c.word_at-conditions.ensures c.word_at-timers.ensures c.counts_fit-fit.ensures c.if-not-fit.true

pub returns-then-not-right : goal.returns-then-not-right
returns-then-not-right c =
    let a = c.args in
    opened_unformed a.bytes.now c.word_at-threads.ensures c.word_at-mutexes.ensures c.word_at-conditions.ensures c.word_at-timers.ensures c.counts_fit-fit.ensures _ _
    c.if-not-fit.false (λ j. (c.type_inv.bytes j).fits) c.read-page.ensures c.is_formed-right.ensures c.if-not-right.true

pub returns : goal.returns
returns c =
    let a = c.args in
    opened_right a.bytes.now c.word_at-threads.ensures c.word_at-mutexes.ensures c.word_at-conditions.ensures c.word_at-timers.ensures c.counts_fit-fit.ensures _ _
    c.if-not-fit.false (λ j. (c.type_inv.bytes j).fits) c.read-page.ensures c.is_formed-right.ensures c.if-not-right.false
