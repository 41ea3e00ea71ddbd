-- `Engine::wrong_row` meets its contract: a refusal, and the law that carries it to document 01. Assumes nothing.
use Rattle.value_engine.proofs.Steps.{wrong_promise}
use Rattle.value_engine.proofs.Engine.wrong_row.Goals as goal

pub returns : goal.returns
returns c =
    let p = wrong_promise c.args.self c.refused.result c.refused.ensures in
    record { always = p.0; means = p.1 }
