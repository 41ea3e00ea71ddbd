-- `same_words` meets its contract: two wheels are one exactly if their words are. Assumes nothing.
use Rattle.std.proofs.Common.{rules, ◌≡◌, true}
use mathlib.Core.Path.{ap}
use Rattle.wheel.specs.declared.Wheel.{Wheel}
use Rattle.wheel.specs.Inside.{made}
use Rattle.wheel.specs.Promise.Opened.{words_are}
use Rattle.wheel.proofs.same_words.Goals as goal

pub returns : goal.returns
returns c =
    let e : (c.eq.result ≡ true → c.args.one.now ≡ c.args.other.now) × (c.args.one.now ≡ c.args.other.now → c.eq.result ≡ true) = search rules in
    rw (words_are c.args.one.now, words_are c.args.other.now) (λ q. ap made (e.0 q), λ q. e.1 (ap (λ (w : Wheel). w.words) q))
