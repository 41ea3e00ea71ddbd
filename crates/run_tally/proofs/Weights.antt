-- What an answer weighs in a sum tells a wrong given from a wrong number: two answers of one weight are the same answer.
-- Assumes nothing.
use Rattle.std.proofs.Common.{◌≡◌, arith}
use Rattle.calls.specs.declared.Answer.{Answer}
use Rattle.run_tally.specs.Sums.{Fits, weight}

pub weight_tells_answers : (a b : Answer) → Fits a → Fits b → weight a ≡ weight b → a ≡ b
weight_tells_answers a b f g e =
    let number : a.number ≡ b.number = omega (arith, e, f.given, f.running, g.given, g.running) in
    let given : a.given ≡ b.given = omega (arith, e, f.given, f.running, g.given, g.running) in
    let running : a.running ≡ b.running = omega (arith, e, f.given, f.running, g.given, g.running) in
    λ i. record { number = number i; given = given i; running = running i }
