-- `Run::end` meets its contract: the refusal of a refused run, else what saving gives. Assumes nothing.
use mathlib.Core.Path.{refl}
use Rattle.run_pieces.proofs.Run.end.Goals as goal

pub returns-then-self-ne0 : goal.returns-then-self-ne0
returns-then-self-ne0 c = record { of_run = λ e. absurd (c.if-self-ne0.true e); of_refused = λ n. (refl, refl) }

pub returns : goal.returns
returns c =
    record {
      of_run = λ e. c.save.ensures;
      of_refused = λ n. absurd (n c.if-self-ne0.false);
    }
