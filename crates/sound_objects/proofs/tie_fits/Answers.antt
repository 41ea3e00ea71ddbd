-- `tie_fits` meets its contract: by its test. Assumes nothing.
use Rattle.sound_objects.proofs.tie_fits.Goals as goal

pub returns-then-someone : goal.returns-then-someone
returns-then-someone c = rw c.if-someone.true

pub returns : goal.returns
returns c = rw c.if-someone.false
