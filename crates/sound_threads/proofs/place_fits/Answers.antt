-- `place_fits` meets its contract: by its test. Assumes nothing.
use mathlib.Core.Path.{sym, ◌∙◌}
use Rattle.laws.proofs.Bools.{cond_true, cond_false}
use Rattle.rules.specs.Page.{where_of}
use Rattle.sound_threads.specs.Threads.{place_fits}
use Rattle.sound_threads.proofs.place_fits.Goals as goal

pub returns-then-stands : goal.returns-then-stands
unfolding place_fits where_of
returns-then-stands c =
    sym (cond_true _ _ _ (sym c.stands.ensures ∙ c.if-stands.true))

pub returns : goal.returns
unfolding place_fits where_of
returns c =
    c.counted.ensures ∙ sym (cond_false _ _ _ (sym c.stands.ensures ∙ c.if-stands.false))
