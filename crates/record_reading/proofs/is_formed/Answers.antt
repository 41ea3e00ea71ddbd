-- `is_formed` meets its contract: the states, then the bytes. Assumes nothing.
use mathlib.Core.Path.{sym, ap, ◌∙◌}
use mathlib.Core.Bool.{◌&&◌}
use Rattle.record_bytes.specs.Record.{record_of}
use Rattle.page.specs.Says.{said}
use Rattle.record_reading.specs.Rows.{same_bytes}
use Rattle.record_reading.proofs.is_formed.Goals as goal

pub returns-then-not-states : goal.returns-then-not-states
returns-then-not-states c =
    let a = c.args in
    sym (ap (λ b. b && same_bytes a.bytes.now (record_of (said a.page))) (sym c.states_formed-states.ensures ∙ c.if-not-states.true))

pub returns : goal.returns
returns c =
    let a = c.args in
    c.is_record.ensures ∙ sym (ap (λ b. b && same_bytes a.bytes.now (record_of (said a.page))) (sym c.states_formed-states.ensures ∙ c.if-not-states.false))
