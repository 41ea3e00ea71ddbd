-- `wrong_row` meets its contract: it is the model, and the law carries that to document 01. Assumes nothing.
use Rattle.run_rows.proofs.Meaning.{wrong_row_promise}
use Rattle.run_rows.proofs.wrong_row.Goals as goal

pub returns : goal.returns
returns c =
    let p = wrong_row_promise c.args.engine _ (λ i. record { number = c.number.ensures i; given = 255; running = c.args.engine.scheduler.running }) in record { always = p.0; means = p.1 }
